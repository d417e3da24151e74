-- Writing an Address Flush (2026-03): lists of nicknames and blocks to a payload.
pub mod Writing
pub mod Areas
pub mod Words
pub mod Cases
pub mod Claims

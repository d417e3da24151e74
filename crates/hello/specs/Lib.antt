-- Smart-Hellos (RFC 8384, sections 4.2 and 4.3): payloads read into contents, contents written as payloads.
pub mod Tlvs
pub mod Pieces
pub mod Contents
pub mod Reading
pub mod Writing
pub mod Area
pub mod Form
pub mod Calls
pub mod Words
pub mod Cases
pub mod Claims

-- Why did this address go? (2026-08)
pub mod Why
pub mod Words
pub mod Claims
pub mod Cases

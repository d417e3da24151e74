-- Laws of taking, for this crate.
pub mod Takers
pub mod Entries
pub mod Whole
pub mod Places

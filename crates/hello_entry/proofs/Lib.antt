-- Laws of entries, for this crate and those above.
pub mod Plain
pub mod Shape
pub mod Counts
pub mod Writes
pub mod Puts

-- Laws of parts, for the crates above.
pub mod Parts

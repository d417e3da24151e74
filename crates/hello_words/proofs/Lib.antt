-- Laws of words in an area, for this crate and those above.
pub mod Words
pub mod Parts

-- Laws of a map of at most one pair, for this crate and those above it.
pub mod Alike

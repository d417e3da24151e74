-- Laws of a slice of pairs, for this crate and those above it.
pub mod Laws
pub mod Bytes

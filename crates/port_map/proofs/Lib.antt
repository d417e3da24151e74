-- Laws of a port's map, for this crate and those above it.
pub mod Searches
pub mod Steps

-- Laws of keys, for this crate and those above it.
pub mod Fields
pub mod Tests
pub mod Making
pub mod Marking

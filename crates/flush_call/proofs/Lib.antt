-- Laws of the two calls, for this crate and those above it.
pub mod Calls
pub mod Tests
pub mod Walks

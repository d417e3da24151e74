-- Laws of the watch, for this crate and those above it.
pub mod Stops
pub mod Sends

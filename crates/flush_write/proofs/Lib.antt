-- Laws of the writer.
pub mod Lists
pub mod Blocks
pub mod Exact
pub mod Bounds
pub mod Clears
pub mod Calls
pub mod Worked

-- Laws of counting, for this crate and those that write the contents.
pub mod Subs
pub mod Levels
pub mod Sections

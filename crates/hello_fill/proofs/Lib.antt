-- Laws of writing sections.
pub mod Apart
pub mod Walks
pub mod Subs

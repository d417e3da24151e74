-- Writing a Smart-Hello, section by section.
pub mod Sections

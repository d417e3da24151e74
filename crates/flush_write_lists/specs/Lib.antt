-- What the code that writes lists assumes of their widths, and the test of one list.
pub mod Widths

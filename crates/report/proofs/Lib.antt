-- Laws of the morning report.
pub mod Digits
pub mod Lines
pub mod Sums
pub mod Case

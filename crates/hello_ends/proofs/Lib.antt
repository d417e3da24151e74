-- Laws of ends, for this crate.
pub mod Numbers
pub mod Shapes
pub mod Judged
pub mod Many
pub mod Sums
pub mod Good

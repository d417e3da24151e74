pub mod Pairs
pub mod Scan

pub mod General
pub mod Compact
pub mod Located
pub mod Outcomes

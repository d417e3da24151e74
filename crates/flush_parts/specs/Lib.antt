pub mod Parts
pub mod Named

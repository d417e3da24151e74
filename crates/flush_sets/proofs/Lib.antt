pub mod Adding
pub mod Maps

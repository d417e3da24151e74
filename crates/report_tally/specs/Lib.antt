-- Tallies of keys.
pub mod Tallies

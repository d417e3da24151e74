-- Laws of ingress, for this crate and those above it.
pub mod ReadBack
pub mod Worked
pub mod Back
pub mod Accepted
pub mod Far
pub mod Trip

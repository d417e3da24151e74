pub mod FirstPlace
pub mod Reasons
pub mod Calls
pub mod Cases

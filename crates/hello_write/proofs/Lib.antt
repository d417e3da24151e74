-- Laws of the writing call.
pub mod Taking
pub mod Walking
pub mod Calls
pub mod Sizing

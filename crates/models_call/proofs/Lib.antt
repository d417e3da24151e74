-- Laws of the small model's flush.
pub mod Marks
pub mod Calls

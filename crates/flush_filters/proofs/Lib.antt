-- Laws of the filters by a number.
pub mod Laws
pub mod Meant

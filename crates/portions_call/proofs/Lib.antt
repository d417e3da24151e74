-- Laws of the portion call.
pub mod Laws

-- Laws of clearing by a walk.
pub mod Laws

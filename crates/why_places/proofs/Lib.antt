pub mod Laws
pub mod Meant
mod Apart
pub mod Places

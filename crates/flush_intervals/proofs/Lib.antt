-- Laws of sorted keys and of what hits them.
pub mod Ranges
pub mod Hits
pub mod Walks

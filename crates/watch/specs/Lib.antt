-- Stopping compaction when the link looks shared (2026-06).
pub mod Time
pub mod Events
pub mod Sending
pub mod Words
pub mod Claims

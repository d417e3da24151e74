-- The morning report (2026-14).
pub mod Text
pub mod Report
pub mod Claims

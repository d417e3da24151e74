-- Inbound through a port's map (2026-01).
pub mod Ingress
pub mod Claims
pub mod Cases

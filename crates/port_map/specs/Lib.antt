-- A port's map between its VLANs and the campus's fine-grained labels (2026-01).
pub mod Maps
pub mod Claims

-- Sending and the choice of what to send (document 01, "Compacting, expanding, sending").
pub mod Meaning

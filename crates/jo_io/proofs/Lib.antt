-- Lemmas for callers.
pub mod Faults
pub mod Puts

pub mod Pairs
pub mod Ways

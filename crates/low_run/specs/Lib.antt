pub mod Verdict
pub mod LevelFlows
pub mod ByEdges
pub mod Security
pub mod Sides
pub mod Leak

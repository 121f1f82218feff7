pub mod Adding
pub mod Exploring
pub mod NodeUses
pub mod Rows
pub mod Spots
pub mod Steps

pub mod Outcomes
pub mod TreeKeys
pub mod PolicyTree
pub mod RunTree

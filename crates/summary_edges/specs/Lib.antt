pub mod Adds
pub mod Calls
pub mod Levels
pub mod Pairs

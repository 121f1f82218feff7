pub mod Finds
pub mod Phases
pub mod Slices

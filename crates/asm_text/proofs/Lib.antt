pub mod LineSteps
pub mod Respelled
pub mod Magnitudes
pub mod Behind
mod ByItems

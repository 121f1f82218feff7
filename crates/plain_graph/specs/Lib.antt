pub mod Slices
pub mod Building

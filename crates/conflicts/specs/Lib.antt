pub mod Clashes
pub mod Finding
pub mod Sides

pub mod Values
pub mod Heaps
pub mod Resolved
pub mod Types

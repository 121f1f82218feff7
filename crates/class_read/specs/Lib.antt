pub mod Codes
pub mod Faults
pub mod Methods
pub mod Versions
pub mod Kept
pub mod Starts

pub mod Paths
pub mod Kept
pub mod Going
pub mod Premises
pub mod Calls

pub mod Catching
pub mod Made

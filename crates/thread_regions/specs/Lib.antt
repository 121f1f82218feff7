pub mod Forks
pub mod Places
pub mod Regions
pub mod Searches

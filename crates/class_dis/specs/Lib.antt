pub mod Insns
pub mod Labels
pub mod Listing
pub mod Names
pub mod Words

pub mod TypedStates
pub mod Premises
pub mod Needs
pub mod Effects
pub mod Growth
pub mod Fetches
pub mod Tables

pub mod Settings
pub mod States
pub mod Moves
pub mod Fetches
pub mod Standings

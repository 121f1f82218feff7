pub mod FactKeys
pub mod FactLists
pub mod Groups
pub mod Tables
pub mod Seen

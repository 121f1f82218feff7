pub mod Orders
pub mod Cycles
pub mod ClassNames
pub mod Hierarchies
pub mod OwnMembers
pub mod Resolutions

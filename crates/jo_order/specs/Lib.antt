pub mod LevelRows
pub mod FlowLaws
pub mod Orders
pub mod Closing
pub mod Flowing

pub mod Graphs
pub mod Queues

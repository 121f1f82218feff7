pub mod Ends
pub mod NodeTexts
pub mod Nodes
pub mod OpenCalls
pub mod Progress
pub mod Report
pub mod Verify

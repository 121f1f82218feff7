pub mod Files
pub mod Codes
pub mod Bodies
pub mod RunStates

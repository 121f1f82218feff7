pub mod Status
pub mod Notes
pub mod Files
pub mod Reading

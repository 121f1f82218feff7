pub mod RunFiles
pub mod Schedules

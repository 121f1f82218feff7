pub mod KindPasses
pub mod Slots
pub mod Sources
pub mod Stops
pub mod KindFaults
pub mod Typings

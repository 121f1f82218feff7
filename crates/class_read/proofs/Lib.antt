mod ClassLaws
mod FieldSteps
mod MethodSteps
mod OwnFaults
mod Skipping
pub mod CodeRoom
pub mod InsnsRead
pub mod CodeJumps
pub mod CodeChecked

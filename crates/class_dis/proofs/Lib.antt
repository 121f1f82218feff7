pub mod BodyLines
pub mod InsnSteps
pub mod LabelMarks
mod ListedWhole
mod NamesThere
mod OperandsThere
pub mod Pieces
pub mod SwitchSteps

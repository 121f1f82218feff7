pub mod Shapes
pub mod Operands
pub mod Outcomes
pub mod Forms

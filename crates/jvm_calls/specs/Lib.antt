pub mod Operands
pub mod Invokes

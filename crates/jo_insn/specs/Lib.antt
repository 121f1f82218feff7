pub mod AccessFlags
pub mod Opcodes
pub mod ArrayKinds
pub mod Instructions
pub mod Rows
pub mod Keys
pub mod Jumps
pub mod Marks

pub mod Path
pub mod Closure
pub mod Words
pub mod Rows
pub mod Lends

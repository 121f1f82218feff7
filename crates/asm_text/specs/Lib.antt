pub mod Outcomes
pub mod Lines
pub mod ItemScan
pub mod Words
pub mod Statements
pub mod Numbered
pub mod Grammar

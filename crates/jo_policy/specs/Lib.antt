pub mod Numbering
pub mod FileMethods
pub mod Labelling
pub mod Threads
pub mod Policies
pub mod LabelTables

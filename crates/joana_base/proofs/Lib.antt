pub mod FileClasses
pub mod ReadFiles

pub mod Groups
pub mod NodesThere
pub mod Limits
pub mod Additions
pub mod Kept
pub mod Tables
pub mod Advances
pub mod Methods

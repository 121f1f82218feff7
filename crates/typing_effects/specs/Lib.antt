pub mod Kinds
pub mod Forms
pub mod Effects
pub mod ClassNames

pub mod MadeEntries
pub mod LabelPlaces
pub mod Sizes
pub mod OperationSizes
pub mod StatementNumbers
pub mod PoolGrows
pub mod CodeFits
pub mod ClassFits
mod OnlyRanges
mod TextsAgree

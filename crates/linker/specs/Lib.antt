pub mod Linking
pub mod LinkFaults
pub mod NeededClasses
pub mod KnownNames
pub mod UsedEntries
pub mod ClassPlaces
pub mod LinkOrder

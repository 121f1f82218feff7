pub mod Items
pub mod Adds
pub mod CellEdges
pub mod Instructions
pub mod ObjectCells
pub mod Accesses
pub mod FlowSets

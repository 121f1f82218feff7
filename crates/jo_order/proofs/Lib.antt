pub mod RowsLemmas
pub mod ClosingLemmas
pub mod OrderLemmas
pub mod NameLemmas

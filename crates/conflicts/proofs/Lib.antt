pub mod ClashLemmas
pub mod FoundLemmas

pub mod StepLemmas
pub mod ExploreLemmas
pub mod AddingLemmas
pub mod UseLemmas
pub mod RowLemmas
pub mod CountLemmas
pub mod NumberLemmas
pub mod ReadLemmas

pub mod SliceLemmas
pub mod GroupLemmas
pub mod TableLemmas
pub mod NumberingLemmas
pub mod SayLemmas

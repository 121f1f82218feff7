pub mod NodeLemmas
pub mod BaseLemmas
pub mod TableLemmas

pub mod CatchLemmas
pub mod MadeLemmas

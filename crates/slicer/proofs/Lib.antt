pub mod EndLemmas
pub mod FindLemmas
pub mod PhaseLemmas
pub mod SearchLemmas

pub mod TypeLemmas
pub mod IntLemmas
pub mod ValueLemmas
pub mod ExecLemmas
pub mod KeptLemmas
pub mod FetchLemmas
pub mod TableLemmas
pub mod StepLemmas
pub mod NewLemmas
mod FirstStates

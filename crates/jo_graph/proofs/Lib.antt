pub mod GraphLemmas
pub mod QueueLemmas

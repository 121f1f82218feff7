mod Operations
pub mod HeapLemmas

-- The words of the clauses, a module for each type.
pub mod Counts
pub mod Files
pub mod MemoryFiles
pub mod MemorySink
pub mod Sink
pub mod StdFiles
pub mod StdSink

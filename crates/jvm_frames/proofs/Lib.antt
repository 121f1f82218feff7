pub mod StackLemmas
mod LocalLemmas

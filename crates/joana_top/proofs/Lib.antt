pub mod Endings
pub mod Forms
pub mod Outcomes
pub mod StopLemmas
mod PlainTyped

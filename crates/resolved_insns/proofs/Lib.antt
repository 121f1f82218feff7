pub mod StringLemmas
mod PlainLemmas
mod SwitchLemmas
mod OperandLemmas
pub mod TableLemmas

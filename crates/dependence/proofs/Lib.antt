pub mod BehindLemmas
pub mod DataLemmas
pub mod FactLemmas
pub mod FlowLemmas
pub mod ListedLemmas
pub mod OpcodeLemmas
pub mod RowLemmas

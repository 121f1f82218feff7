pub mod EffectLemmas
pub mod AskLemmas
pub mod NameTables

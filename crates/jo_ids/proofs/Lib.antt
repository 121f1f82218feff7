pub mod WordLemmas
pub mod RowLemmas
pub mod JoinLemmas
pub mod PathLemmas

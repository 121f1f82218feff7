pub mod OrderLemmas
pub mod CycleLemmas
pub mod ProgramGraphs
pub mod Queries
pub mod ParentLemmas
pub mod ResolutionLemmas
pub mod MemberTables
pub mod NameTables

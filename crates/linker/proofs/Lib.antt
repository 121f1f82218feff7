mod Firsts
mod NameLemmas
mod PreludeLinks
mod UsedLemmas
mod TypeLemmas
mod CountLemmas
mod OrderLemmas
mod ToldLemmas
pub mod ParentsThere

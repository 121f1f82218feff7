pub mod Policies
pub mod SiteLists
pub mod ContextLaws

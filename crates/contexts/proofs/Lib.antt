pub mod ShortContexts
pub mod SiteListLemmas

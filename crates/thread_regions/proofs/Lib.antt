pub mod FirstLemmas
pub mod ForkLemmas
pub mod ListLemmas
pub mod PlaceLemmas
pub mod ReachLemmas
pub mod RegionLemmas
pub mod SpotLemmas
pub mod TableLemmas

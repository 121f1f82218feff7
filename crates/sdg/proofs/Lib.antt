pub mod GrowthLemmas
pub mod TargetLemmas
pub mod NamedLemmas
pub mod SeenTargets
pub mod FlowLinkLemmas
pub mod RuleLemmas

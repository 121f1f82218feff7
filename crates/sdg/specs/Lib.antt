pub mod Growing
pub mod Links
pub mod Growth
pub mod TargetLinks
pub mod NamedGraphs
pub mod TargetRules
pub mod FlowLinks
pub mod LinkRules

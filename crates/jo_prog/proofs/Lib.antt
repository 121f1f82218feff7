pub mod Decoding
pub mod Flows
pub mod IntShapeLemmas
pub mod PlainPaths
pub mod RunLemmas
pub mod RunningLemmas
mod Strings
pub mod TypingPaths
pub mod WalkLemmas
pub mod HierarchyLemmas
pub mod InsnSteps
mod SiteLemmas
pub mod ArrayLemmas

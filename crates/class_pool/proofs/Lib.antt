pub mod Many
mod PoolEntries
mod KnownFacts
pub mod PoolFits
pub mod PoolStops
pub mod GrammarInsns
pub mod GrammarJumps
pub mod GrammarCode
pub mod GrammarMethods
pub mod GrammarNumbers
pub mod GrammarMany
pub mod GrammarPool
pub mod GrammarParts
pub mod GrammarClass
pub mod FirstFaultSteps
pub mod FirstFaultEntries
pub mod FirstFaultReferences
pub mod KeptSizes
pub mod KeptInsns
pub mod KeptAgain
pub mod GrammarBytes
pub mod GrammarFits
pub mod FirstFaultFields
pub mod FirstFaultCode
pub mod FirstFaultMethods
pub mod FirstFaultClass

pub mod FirstFaults
pub mod SuperFaults
pub mod UsedOperands
pub mod MemberFaults
pub mod BodyFaults

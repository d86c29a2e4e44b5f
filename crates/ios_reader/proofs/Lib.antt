-- What the checker computes, and the laws that the answers cite.
mod FaultExamples
pub mod Places
pub mod TellsFacts
pub mod FirstFault
pub mod LeastFault

-- What the checker computes, and the laws that the answers cite.
mod FaultExamples
pub mod Rows
pub mod Sorts
pub mod FlagLaws
pub mod PrefixSets
pub mod TermStates
pub mod Behind
pub mod Facts
pub mod FirstFault
pub mod LeastFault

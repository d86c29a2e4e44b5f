-- What the checker computes, and the laws that the answers cite.
mod FaultExamples
pub mod OneFirst
pub mod OneName
pub mod Earlier
pub mod CauseOrder
pub mod Folds
pub mod Reached
pub mod KnownFacts
pub mod Started
pub mod MayBe
pub mod Above
pub mod ArgumentFaults
pub mod FirstFound
pub mod Repeats
pub mod Demanded
pub mod Walk
pub mod Held

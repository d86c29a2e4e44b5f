pub mod Phrases
pub mod Agree
pub mod Values
pub mod Lengths
pub mod NameSets
pub mod Flags
pub mod FirstFaults
mod Examples

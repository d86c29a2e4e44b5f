pub mod Names
pub mod Bounds
pub mod Phrases
pub mod Causes
pub mod NameSets
pub mod CauseNames
pub mod CommonWords
pub mod Halves

pub mod Chains
pub mod ChainNames
pub mod Causes
pub mod ClapParse
pub mod ClapRows
pub mod ClapValues
pub mod OnLiterals
pub mod Words
mod WordExamples

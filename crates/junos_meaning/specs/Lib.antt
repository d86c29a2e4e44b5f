pub mod Sets
pub mod Conditions
pub mod Meaning
pub mod Maps
pub mod Regions
pub mod Longest
pub mod Subroutines
pub mod Chains

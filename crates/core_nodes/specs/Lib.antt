pub mod Atoms
pub mod Nodes
pub mod Outcome
pub mod Made

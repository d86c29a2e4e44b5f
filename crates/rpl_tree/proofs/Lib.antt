-- What the checker computes, and the laws that the answers cite.
mod Examples
pub mod Faults
pub mod Readings
pub mod Rise
pub mod Trees
pub mod Nests

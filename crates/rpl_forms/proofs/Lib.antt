-- What the checker computes, and the laws that the answers cite.
pub mod MarkSteps
pub mod Last
pub mod Agree
pub mod Spelled
mod Examples

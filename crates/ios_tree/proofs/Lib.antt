-- What the checker computes, and the laws that the answers cite.
mod Examples
pub mod Zeros
pub mod Begins
pub mod Forms
pub mod Spelled
pub mod Reading

-- What the checker computes, and the laws that the answers cite.
mod Examples
pub mod Wide
pub mod Counted

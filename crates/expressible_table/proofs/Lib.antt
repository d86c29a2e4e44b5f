-- What the checker computes, and the laws that the answers cite.
mod Examples
pub mod FirstMissing
pub mod Rises
pub mod Noted

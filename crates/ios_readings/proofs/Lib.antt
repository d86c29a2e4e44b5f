-- The laws that the answers cite.
pub mod Kept
pub mod Ordered
pub mod Settled
pub mod Agree
pub mod AtOnce
mod Examples

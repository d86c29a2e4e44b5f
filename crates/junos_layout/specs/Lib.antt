pub mod Writing
pub mod Terms
pub mod Actions
pub mod Options
pub mod Uses
pub mod Answers
pub mod Sharing

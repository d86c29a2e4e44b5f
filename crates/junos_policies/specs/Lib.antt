pub mod Same
pub mod Noting
pub mod Parts
pub mod Terms
pub mod Names
pub mod Options
pub mod Plan

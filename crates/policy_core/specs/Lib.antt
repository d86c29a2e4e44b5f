pub mod Fold
pub mod Settled
pub mod Steps
pub mod Guards
pub mod Apart
pub mod Waiting
pub mod Ranges
pub mod Sayable

pub mod FittedAfter
pub mod JoinedLaws
pub mod KeptLaws
pub mod Tails
mod Examples

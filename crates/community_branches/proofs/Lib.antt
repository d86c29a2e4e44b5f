pub mod BranchLaws
pub mod AskedLaws
pub mod SetLaws
pub mod Steps
pub mod TestLaws
mod Examples

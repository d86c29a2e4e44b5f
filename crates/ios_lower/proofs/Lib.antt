pub mod Ends
pub mod Grows
pub mod NamedLaws
pub mod PrefixLists
pub mod PathLists
pub mod Deletions
pub mod Copies
pub mod ChangeLaws
pub mod ChangeSteps
pub mod AtomLaws
pub mod AtomWalks
pub mod Runs
pub mod ChainLaws
pub mod Said
pub mod Lowered
mod Examples

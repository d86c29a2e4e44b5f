mod Examples
mod PathExamples
pub mod Alike
pub mod CommunityLists
pub mod Drafts
pub mod InOrder
pub mod Maps
pub mod Members
pub mod PathLists
pub mod PrefixLists
pub mod DeletionLists

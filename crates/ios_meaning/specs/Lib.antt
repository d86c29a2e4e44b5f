pub mod Order
pub mod Lists
pub mod Meaning
pub mod Answers
pub mod Drafts
pub mod Deletions

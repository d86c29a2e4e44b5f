pub mod PendingLaws
pub mod ListedLaws
pub mod SamePending
mod Examples

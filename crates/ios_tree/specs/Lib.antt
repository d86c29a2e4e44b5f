pub mod Names
pub mod Forms
pub mod Tree
pub mod Sorts
pub mod Spelling
pub mod Numbering
pub mod Spans
pub mod Reading

pub mod Sorts
pub mod Terms
pub mod Words
pub mod Forms
pub mod Tree
pub mod Spelling
pub mod Reading
pub mod Spans

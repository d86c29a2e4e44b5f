pub mod Blocks
pub mod Broken
pub mod Placed
pub mod Tree
pub mod Reading
pub mod Spans
pub mod Nesting

pub mod Patterns
pub mod Words
pub mod Layout
pub mod Written
pub mod Blocks
pub mod Texts

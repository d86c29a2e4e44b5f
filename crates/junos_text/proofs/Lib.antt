pub mod Plain
pub mod Phrases
pub mod Spelled
pub mod Reading
pub mod Definitions
pub mod Texts
pub mod Written

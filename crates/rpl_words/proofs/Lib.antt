pub mod Phrases
pub mod Agree

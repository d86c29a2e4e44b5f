-- What is found is what is spelled.
pub mod Tokens
pub mod Values
pub mod Elements
pub mod Tests

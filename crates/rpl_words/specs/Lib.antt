pub mod Tokens
pub mod Values
pub mod Elements
pub mod Conditions

-- What is found is what is spelled.
pub mod Actions
pub mod Statements
pub mod Marks
pub mod Terms
pub mod Found

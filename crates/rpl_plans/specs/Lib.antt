pub mod Actions
pub mod Choices
pub mod Entries
pub mod Holds
pub mod Fits
pub mod Plans

-- The laws that the answer cites.
pub mod Lists
pub mod Written
pub mod Lines
pub mod Standard
pub mod Prefixes
pub mod Communities
pub mod Changes
pub mod Policies

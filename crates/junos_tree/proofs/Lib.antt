-- What the checker computes, and the laws that the answers cite.
mod Examples
pub mod WordForms
pub mod Spaces
pub mod ValueLists
pub mod ConditionForms
pub mod ActionForms
pub mod Spelled
pub mod Quotes
pub mod Reading

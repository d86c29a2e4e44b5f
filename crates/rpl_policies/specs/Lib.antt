pub mod Own
pub mod Noting
pub mod Postfix
pub mod Acts
pub mod Names

mod Examples
pub mod Rows
pub mod Noted
pub mod AnyTells
pub mod Postfix
pub mod Acts

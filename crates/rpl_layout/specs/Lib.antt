pub mod Guards
pub mod Statements
pub mod Tests
pub mod Forms
pub mod Sharing

pub mod Languages
pub mod NewNames
pub mod Words
pub mod Spelled

pub mod Grants
pub mod KindNames
pub mod Kinds
pub mod Constructs
pub mod Missing
pub mod Noted

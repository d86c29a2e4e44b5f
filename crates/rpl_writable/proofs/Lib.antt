mod Examples
pub mod NameLaws
pub mod SetLaws
pub mod ActionLaws
pub mod StepLaws
pub mod OwnNames
pub mod Writable

mod Examples
pub mod NameLaws
pub mod PathLaws
pub mod ValueLaws
pub mod ConditionLaws
pub mod TermLaws
pub mod OwnNames
pub mod UsedNames

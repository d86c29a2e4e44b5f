mod Examples
pub mod FitLaws
pub mod ChangeLaws
pub mod ApartLaws
pub mod EntryLaws
pub mod PathLaws
pub mod GatherLaws
pub mod GuardLaws
pub mod AtomLaws
pub mod PlanLaws

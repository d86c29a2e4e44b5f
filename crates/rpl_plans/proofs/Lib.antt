mod Examples
pub mod ActionLaws
pub mod FirstChoice
pub mod FitLaws
pub mod GroupingLaws
pub mod EntryLaws
pub mod PathLaws
pub mod AtomLaws
pub mod PlanLaws

pub mod SaidLaws
pub mod EndLaws
pub mod PlanLaws
pub mod MakeLaws
pub mod TaskLaws
mod Examples

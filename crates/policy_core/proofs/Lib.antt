pub mod FoldLaws
pub mod SettledLaws
pub mod ListedLaws
pub mod StepLaws
pub mod SaidLaws
pub mod ApartLaws
pub mod WaitingLaws
mod Examples

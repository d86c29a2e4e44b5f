mod Tells
mod Keys
pub mod NumbersLaws
pub mod TidyLaws
pub mod ThreadLaws
pub mod LetterLaws
pub mod StateLaws
pub mod SortingLaws
pub mod ViewLaws
pub mod CutLaws
pub mod AlikeLaws
pub mod AnswerLaws
pub mod ClassLaws
mod Examples

pub mod AnswerLaws
mod Examples
pub mod DecidedLaws

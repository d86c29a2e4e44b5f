mod Examples
pub mod PieceLaws
pub mod ChangeLaws
pub mod DraftLaws
pub mod DoneLaws
pub mod AnswerLaws
pub mod KeptLaws

mod MapLaws
mod RegionLaws
mod LongestLaws
mod SetTests
mod Acting
mod CallLaws
mod AnswerLaws
mod Examples

pub mod Told
pub mod Unsound
pub mod Judged
pub mod Fetched
pub mod NewNames
pub mod Settled
pub mod Right
pub mod ToldOnce
pub mod Saying
pub mod Due
pub mod Endings
pub mod Ended
mod RunExamples

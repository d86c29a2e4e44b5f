mod Examples
pub mod Changes
pub mod CutLaws
pub mod Sides

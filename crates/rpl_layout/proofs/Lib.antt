mod Examples
pub mod GuardLaws
pub mod ShapeLaws
pub mod Asked
pub mod Depths
pub mod Uses
pub mod Profile
pub mod InProfile
pub mod RunLaws
pub mod ActionRuns
pub mod Lookups
pub mod Meaning
pub mod Sharing

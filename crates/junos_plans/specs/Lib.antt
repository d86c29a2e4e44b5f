pub mod Changes
pub mod Conditions
pub mod Apart
pub mod Entries
pub mod Fits
pub mod Gathered
pub mod Plans

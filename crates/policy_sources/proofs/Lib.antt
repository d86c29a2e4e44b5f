pub mod Loaded
pub mod FoundLists
pub mod DemandLists
pub mod FirstOrNone
pub mod LoadsOnce

pub mod Branches
pub mod Asked
pub mod Tests
pub mod Done

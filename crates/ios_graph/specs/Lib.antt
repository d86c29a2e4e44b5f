pub mod Rows
pub mod Runs
pub mod Apart
pub mod Lowered

pub mod Readings
pub mod AtOnce

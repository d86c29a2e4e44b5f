-- The laws of whole texts.
pub mod Numbers
pub mod Readings
pub mod Rise

pub mod Entries
pub mod Items
pub mod Lines
pub mod Facts
pub mod Profile
pub mod Faults
pub mod Known
pub mod Walk

pub mod Uses
pub mod Used
pub mod Spoken
pub mod Blocks
pub mod Told
pub mod Counts

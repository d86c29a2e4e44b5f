pub mod Calls
pub mod Depth
pub mod Callees
pub mod Search
pub mod Ranks

mod Examples
pub mod LongestMatch

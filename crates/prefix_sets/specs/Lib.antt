pub mod Range
pub mod FirstMatch
pub mod LongestMatch
pub mod LongestEntries

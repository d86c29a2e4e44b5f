-- What the checker computes, and the laws that the answers cite.
mod Examples
pub mod SpelledPatterns
pub mod Pieces
pub mod SpelledValues
pub mod SpelledElements
pub mod SpelledConditions
pub mod Lines
pub mod SpelledStatements
pub mod ElementLines
pub mod Texts
pub mod Reading

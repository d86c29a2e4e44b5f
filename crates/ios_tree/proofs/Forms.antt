-- The laws of words, entries and lines.
pub mod Words
pub mod Options
pub mod Entries
pub mod Lines

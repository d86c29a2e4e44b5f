pub mod Words
pub mod Layout
pub mod Written
pub mod Texts

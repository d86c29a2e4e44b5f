pub mod Own
pub mod Printed

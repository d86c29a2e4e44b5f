mod Examples
pub mod Printed

mod Examples
mod RouteExamples
pub mod Numbers
pub mod Spelled
pub mod Walk
pub mod Parts
pub mod Printed
pub mod Bits
pub mod Sets
pub mod Sorted
pub mod Found
pub mod RouteWords
pub mod RouteSpelled
pub mod RoutePrinted
pub mod RouteRange

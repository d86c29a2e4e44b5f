-- What leads to what, and what a search finds.
pub mod Leads
pub mod Maps
pub mod Notes
pub mod PairSets
pub mod Closures
pub mod Depths
pub mod Walking
pub mod Ranked
mod Examples

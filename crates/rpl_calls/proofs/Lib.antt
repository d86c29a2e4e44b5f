pub mod Placed
pub mod Saying
pub mod Tables
pub mod Listing
pub mod Linked
pub mod Found

pub mod Ends
pub mod Keys
pub mod Plans
pub mod Said
pub mod Tasks

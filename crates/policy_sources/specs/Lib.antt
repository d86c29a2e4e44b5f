pub mod Source
pub mod Loading

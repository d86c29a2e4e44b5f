pub mod Tells
pub mod SameKinds
pub mod Places
pub mod Insert

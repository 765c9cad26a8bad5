pub mod Allowed
pub mod Values

pub mod Handles
pub mod Values

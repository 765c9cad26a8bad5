pub mod Frame
pub mod Actions
pub mod Runs
pub mod Made
pub mod Prepared
pub mod Refused
pub mod Lines

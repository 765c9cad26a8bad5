pub mod Told
pub mod Whole
pub mod Lines

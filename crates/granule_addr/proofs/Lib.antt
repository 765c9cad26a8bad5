pub mod Spaces
pub mod Same
pub mod Runs

pub mod Turns
pub mod Runs
pub mod Settings
pub mod MapLines
pub mod Maps
pub mod Aborts

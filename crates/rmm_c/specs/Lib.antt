pub mod Guest
pub mod Judging
pub mod Lines
pub mod Memory
pub mod Reading
pub mod Settings
pub mod Smc

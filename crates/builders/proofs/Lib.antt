pub mod Telling
pub mod Working
pub mod Running
pub mod Waiting
pub mod Orders

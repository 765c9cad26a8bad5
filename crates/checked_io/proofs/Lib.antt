pub mod Written
pub mod Read
pub mod Parts
pub mod Nexts

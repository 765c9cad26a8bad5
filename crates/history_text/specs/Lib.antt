pub mod Written
pub mod Acts
pub mod Events
pub mod Histories

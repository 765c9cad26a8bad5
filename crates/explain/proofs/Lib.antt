pub mod Lists
pub mod Needs
pub mod Runs
pub mod ReasonLines
mod FirstFailing

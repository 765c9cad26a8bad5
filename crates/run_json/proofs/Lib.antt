pub mod Turns
pub mod Lists
mod RowRuns

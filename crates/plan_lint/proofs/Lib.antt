pub mod Excerpts
pub mod Moved
pub mod ReportLines

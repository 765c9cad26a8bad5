pub mod Numbers
pub mod Ranges
pub mod Rows
pub mod Written
pub mod Grammar

pub mod Ends
pub mod Follows
pub mod Written
pub mod Leased

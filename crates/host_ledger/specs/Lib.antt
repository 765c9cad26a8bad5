pub mod Marks
pub mod View
pub mod Codes
pub mod Recs
pub mod Vmids
pub mod Booted
pub mod Summary
pub mod Kept

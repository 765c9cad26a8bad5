pub mod Tables
pub mod Refused
pub mod FoundNext
pub mod ActOf
pub mod Allocation
pub mod NoAct

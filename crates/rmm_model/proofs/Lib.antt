pub mod ChildEntries
pub mod FixedEntries
pub mod LiveEntries
pub mod Parts
pub mod Zeros

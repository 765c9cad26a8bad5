pub mod Word
pub mod FiniteRows
pub mod Tables
pub mod Realm
pub mod RowWords
pub mod Answer
pub mod Calls
pub mod Granules

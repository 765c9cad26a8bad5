pub mod LineText
pub mod Judged
pub mod Counting
pub mod Refusal
pub mod Session
pub mod Reading
pub mod Stop

pub mod Findings
pub mod Shown
pub mod Lines
pub mod Texts

pub mod Text
pub mod Place
pub mod Turn
pub mod Run
pub mod Aborts

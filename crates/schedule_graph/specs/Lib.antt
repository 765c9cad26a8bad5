pub mod State
pub mod Number
pub mod Paths
pub mod Alone
pub mod Graph
pub mod First

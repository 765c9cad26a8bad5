pub mod CanWalk
pub mod Evaluated
pub mod Names
pub mod NewRec
pub mod Ready

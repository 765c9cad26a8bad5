pub mod Answered
pub mod Trails
pub mod Workers
pub mod Runs
pub mod Order

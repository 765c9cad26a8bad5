pub mod Kept
pub mod KeptPlan
pub mod Ends
mod Faults
pub mod Held
pub mod Pushed
pub mod Done
pub mod Reading
pub mod Answered
pub mod Reports
pub mod Taken
pub mod Seating
pub mod Ended
pub mod Orders

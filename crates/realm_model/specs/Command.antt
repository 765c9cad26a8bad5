-- The commands of the RMM, and the accesses of the host and of guests. Each is a function of the granules that it
-- names: the checks in sequence, and the effect if all of them pass.
pub mod Check
pub mod Found
pub mod Granule
pub mod Realm
pub mod Table
pub mod Data
pub mod Rec

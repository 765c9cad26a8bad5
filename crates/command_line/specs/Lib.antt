pub mod Stop
pub mod Ended
pub mod Painted
pub mod Options
pub mod Realmhost
pub mod Realmview
pub mod Rmitrace
pub mod Terminal

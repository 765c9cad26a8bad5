pub mod BuildsSummary
pub mod Needs
pub mod Checks
pub mod PageLookup
pub mod Acts
pub mod Replies
pub mod Laws

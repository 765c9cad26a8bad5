pub mod Ipa
pub mod Page
pub mod Root
pub mod Vmids

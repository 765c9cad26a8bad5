pub mod Stack
pub mod Stacks
pub mod StackLaws
pub mod Vmids

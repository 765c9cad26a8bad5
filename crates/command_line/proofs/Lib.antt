pub mod Passed
pub mod Subcommands
mod OptionTexts
mod Pieces
mod HostWords

pub mod Cuts
pub mod Decimals
pub mod Fields
pub mod Maxima
pub mod Spelled
pub mod Grammars
pub mod Rows
pub mod UpTo

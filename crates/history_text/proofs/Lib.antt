-- Proofs about the text of an operation, which is a word and numbers, and about the lines of a history.
pub mod Auxiliaries
pub mod ActMeans
pub mod RowsMake
pub mod ActSpells
pub mod ActTexts
-- modules on the lines of a history
pub mod EventTexts
pub mod OpeningTexts
pub mod Short

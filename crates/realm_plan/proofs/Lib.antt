pub mod AsWritten
pub mod Documents
pub mod Fronts
pub mod InOrder
pub mod Views
-- proofs about the words and numbers in the texts of steps
pub mod Auxiliaries
pub mod StepMeans
pub mod StepSpells
pub mod StepTexts

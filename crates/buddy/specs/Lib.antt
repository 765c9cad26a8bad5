pub mod MaximalBlock
pub mod Halves
pub mod Heads
pub mod InHand
pub mod Links
pub mod FirstBlock

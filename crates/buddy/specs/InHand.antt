-- The condition that a free block is in none of the free lists, as during a split or a merge, and the invariant of the
-- loop in `cut_out`.
use Rattle.std.specs.Prelude.{◌≡◌, ℕ, ◌+◌, ◌^◌, ◌<◌, ◌≤◌, Bool, true, false, List}
use Rattle.page_arena.specs.Block.{IsFreeBlock, with_taken}
use Rattle.buddy.specs.MaximalBlock.{IsMaximalBlock}
use Rattle.buddy.specs.Heads.{start_at, AreMaximal}

-- a granule is inside a block
abbrev pub LiesIn : ℕ → ℕ → ℕ → Type 0
LiesIn granule order first = (first ≤ granule) × (granule < first + 2 ^ order)

-- The block is free and is in no list, and the lists hold the maximal blocks of all other free granules.
pub record InHand (heads : List ℕ) (flags : List Bool) (order first : ℕ) : Type 0 where
  pub free : IsFreeBlock flags order first
  pub others : AreMaximal heads (with_taken flags order first)

-- no maximal block of the given order or a higher one contains the granule
abbrev pub AllBelow : List Bool → ℕ → ℕ → Type 0
AllBelow flags granule order = (larger start : ℕ) → IsMaximalBlock flags larger start → LiesIn granule larger start → larger < order

-- `found` says whether a maximal block of order `order` or above holds the granule. If one does, its part of order
-- `order` that holds the granule is free, and in no list.
pub record HasChecked (heads : List ℕ) (flags : List Bool) (granule order : ℕ) (found : Bool) : Type 0 where
  pub in_hand : found ≡ true → (order ≤ 9) × InHand heads flags order (start_at granule order)
  pub not_yet : found ≡ false → AreMaximal heads flags × AllBelow flags granule order

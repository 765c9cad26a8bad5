-- The maximal free blocks, which are inside no larger free block. This profile's own: an order is at most 9.
use Rattle.std.specs.Prelude.{◌≡◌, ℕ, ◌+◌, ◌^◌, ◌<◌, ◌≤◌, Bool, List}
use Rattle.page_arena.specs.Block.{IsFreeBlock}

-- a block is inside another one, or is the same block
abbrev pub LiesWithin : ℕ → ℕ → ℕ → ℕ → Type 0
LiesWithin order first larger start = (start ≤ first) × (first + 2 ^ order ≤ start + 2 ^ larger)

-- The block is free, its order is at most 9, and no larger free block of an order up to 9 contains it.
pub record IsMaximalBlock (flags : List Bool) (order first : ℕ) : Type 0 where
  pub low : order ≤ 9
  pub free : IsFreeBlock flags order first
  pub widest : (larger start : ℕ) → order < larger → larger ≤ 9 → IsFreeBlock flags larger start → ¬ (LiesWithin order first larger start)

-- `turns` is one more than the difference in order between the block and a maximal block that contains the block.
pub record TurnsUp (flags : List Bool) (order first turns : ℕ) : Type 0 where
  pub larger : ℕ
  pub start : ℕ
  pub maximal : IsMaximalBlock flags larger start
  pub within : LiesWithin order first larger start
  pub counted : turns + order ≡ larger + 1

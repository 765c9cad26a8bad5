-- Free and taken blocks, each of 2^order adjacent granules, the first a multiple of 2^order.
use Rattle.std.specs.Prelude.{◌≡◌, ℕ, ◌+◌, ◌%◌, ◌^◌, ◌<◌, ◌≤◌, Bool, true, false, List, ◌++◌, length, take, drop, replicate}
use Rattle.page_arena.specs.Page.{is_free}

-- the `count` flags from `first` on are all `flag`
pub record IsRun (flag : Bool) (flags : List Bool) (first count : ℕ) : Type 0 where
  pub each : (granule : ℕ) → first ≤ granule → granule < first + count → is_free flags granule ≡ flag

-- A block of this order begins at `first`: it is aligned and inside the machine, and its granules are all free (flag
-- `true`) or all taken (flag `false`).
pub record IsBlock (flag : Bool) (flags : List Bool) (order first : ℕ) : Type 0 where
  pub aligned : first % 2 ^ order ≡ 0
  pub inside : first + 2 ^ order ≤ length flags
  pub run : IsRun flag flags first (2 ^ order)

abbrev pub IsFreeBlock : List Bool → ℕ → ℕ → Type 0
IsFreeBlock flags order first = IsBlock true flags order first

abbrev pub IsTakenBlock : List Bool → ℕ → ℕ → Type 0
IsTakenBlock flags order first = IsBlock false flags order first

-- the list with each of the `count` items from index `first` on replaced by `x`
unfoldable pub with_run : {X : Type 0} → List X → ℕ → ℕ → X → List X
with_run xs first count x = take first xs ++ replicate count x ++ drop (first + count) xs

-- the granules' flags after a block is taken, with `false` for each granule of the block
abbrev pub with_taken : List Bool → ℕ → ℕ → List Bool
with_taken flags order first = with_run flags first (2 ^ order) false

-- the granules' flags after a block is given back, with `true` for each granule of the block
abbrev pub with_given : List Bool → ℕ → ℕ → List Bool
with_given flags order first = with_run flags first (2 ^ order) true

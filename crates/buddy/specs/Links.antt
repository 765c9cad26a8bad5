-- The doubly linked lists of free blocks, one for each order, with granule numbers as links, and the mask that says
-- which lists have a block.
use Rattle.std.specs.Prelude.{◌≡◌, ℕ, ◌+◌, ◌^◌, ◌<◌, ◌≤◌, ◌↔◌, List, length, slice_index_or}
use Rattle.std.specs.Int.{bit_at}
use Rattle.buddy.specs.Heads.{head_at}

-- the number at an index, or 0 if there is none
abbrev pub at : List ℕ → ℕ → ℕ
at xs i = slice_index_or xs i 0

-- The free list of each order begins at the granule that `firsts` has for the order, and is linked forwards by `next`
-- and backwards by `prev`. It has each head of that order once, since ranks rise along `prev`. A number that no granule
-- has ends a list.
pub record IsLinked (count : ℕ) (heads next prev firsts : List ℕ) : Type 0 where
  pub sized : (length heads ≡ count) × (length next ≡ count) × (length prev ≡ count) × (length firsts ≡ 10)
  pub few : count ≤ 4096
  pub low : (g k : ℕ) → head_at heads g ≡ k + 1 → (k < 10) × (g < count)
  pub ranks : List ℕ
  pub ranked : length ranks ≡ count
  pub top : ℕ
  pub below : (g : ℕ) → g < count → at ranks g < top
  pub first : (k : ℕ) → k < 10 → at firsts k < count → (head_at heads (at firsts k) ≡ k + 1) × (count ≤ at prev (at firsts k))
  pub begins : (g k : ℕ) → head_at heads g ≡ k + 1 → count ≤ at prev g → at firsts k ≡ g
  pub back : (g k : ℕ) → head_at heads g ≡ k + 1 → at prev g < count → (head_at heads (at prev g) ≡ k + 1) × (at next (at prev g) ≡ g) × (at ranks g < at ranks (at prev g))
  pub on : (g k : ℕ) → head_at heads g ≡ k + 1 → at next g < count → (head_at heads (at next g) ≡ k + 1) × (at prev (at next g) ≡ g)

-- some listed block has the given order
abbrev pub HasHead : List ℕ → ℕ → Type 0
HasHead heads order = (g : ℕ) × (head_at heads g ≡ order + 1)

-- the mask has ten bits, one for each order; a bit is set exactly if the order's list has a block
pub record IsMask (mask : ℕ) (heads : List ℕ) : Type 0 where
  pub ten : mask < 2 ^ 10
  pub each : (order : ℕ) → order < 10 → (bit_at mask order ≡ 1) ↔ HasHead heads order

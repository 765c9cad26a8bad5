-- The condition that the listed blocks are exactly the maximal free blocks. A granule's head says whether a listed
-- block begins there, and of which order.
use Rattle.std.specs.Prelude.{◌≡◌, ℕ, ◌+◌, ◌*◌, ◌/◌, ◌^◌, ◌≤◌, ◌==◌, ◌↔◌, Bool, List, map, length, filter, slice_index_or, bit_xor}
use Rattle.std.specs.List.{list_any, range_with_len}
use Rattle.buddy.specs.MaximalBlock.{IsMaximalBlock}

-- the granule's head, which is one more than the order of the listed block that begins there, or 0 if none does
abbrev pub head_at : List ℕ → ℕ → ℕ
head_at heads granule = slice_index_or heads granule 0

-- the first granule of the aligned block of the given order that contains the given granule
abbrev pub start_at : ℕ → ℕ → ℕ
start_at granule order = granule / 2 ^ order * 2 ^ order

-- the first granule of a block's buddy: the buddy is the other half of the next larger block
abbrev pub buddy_at : ℕ → ℕ → ℕ
buddy_at first order = bit_xor first (2 ^ order)

-- a listed block of this order contains the granule
abbrev pub is_held_at : List ℕ → ℕ → ℕ → Bool
is_held_at heads granule order = head_at heads (start_at granule order) == order + 1

-- for each granule, whether a listed block contains the granule
unfoldable pub held : List ℕ → List Bool
held heads = map (λ granule. list_any (is_held_at heads granule) (range_with_len 0 10)) (range_with_len 0 (length heads))

-- The listed blocks are exactly the maximal free blocks, where the flags say which granules are free.
pub record AreMaximal (heads : List ℕ) (flags : List Bool) : Type 0 where
  pub sized : length heads ≡ length flags
  pub each : (order first : ℕ) → (head_at heads first ≡ order + 1) ↔ IsMaximalBlock flags order first

-- The listed blocks are the maximal free blocks of a machine with at most 4096 granules, `count` of which are free.
pub record IsIndex (count : ℕ) (heads : List ℕ) : Type 0 where
  pub few : length heads ≤ 4096
  pub lists : AreMaximal heads (held heads)
  pub counted : count ≡ length (filter (λ flag. flag) (held heads))

-- The block that the allocator chooses: the first block in the first nonempty free list, from the requested order
-- upwards.
use Rattle.std.specs.Prelude.{ℕ, ◌+◌, ◌-◌, ◌==◌, Bool, List, Option, option_map}
use Rattle.std.specs.List.{find, list_any, range_with_len}
use Rattle.buddy.specs.Links.{at}

-- The free lists: `heads` says which listed block begins at each granule, if any, and `firsts` at which granule each
-- nonempty list begins. `head_at` reads `heads`.
pub record ListsView : Type 0 where
  pub heads : List ℕ
  pub firsts : List ℕ

-- The flags that say which granules of the machine are free, and the free lists.
pub record IndexView : Type 0 where
  pub flags : List Bool
  pub lists : ListsView

-- whether the free list of an order has a block
abbrev pub has_head : List ℕ → ℕ → Bool
has_head heads order = list_any (λ head. head == order + 1) heads

-- The first block in the first nonempty free list, from the given order's list to that of order 9; None if all these
-- lists are empty.
unfoldable pub first_block : ListsView → ℕ → Option ℕ
first_block lists order = option_map (at lists.firsts) (find (has_head lists.heads) (range_with_len order (10 - order)))

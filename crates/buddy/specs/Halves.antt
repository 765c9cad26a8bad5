-- The condition that two blocks are the two halves of a block of the next higher order.
use Rattle.std.specs.Prelude.{◌≡◌, ℕ, ◌+◌, ◌%◌, ◌^◌, ◌⊎◌}

-- The blocks of order `order` at `one` and `other` are the halves of the next larger block, which begins at `base`.
pub record AreHalves (order base one other : ℕ) : Type 0 where
  pub aligned : base % 2 ^ (order + 1) ≡ 0
  pub sides : ((one ≡ base) × (other ≡ base + 2 ^ order)) ⊎ ((other ≡ base) × (one ≡ base + 2 ^ order))

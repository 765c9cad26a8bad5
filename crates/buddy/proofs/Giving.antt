-- Proofs that giving back a block preserves the invariant of the free lists. The block is merged with its buddy while
-- that is free and the order is below 9, and is then inserted into a list.
use Rattle.std.proofs.Common.{◌≡◌, ◌≢◌, ℕ, ◌+◌, ◌<◌, ◌≤◌, Bool, List, length, set, inl, inr, subst, arith}
use Rattle.std.proofs.lemmas.List.{get_or-set_same}
use Rattle.std.proofs.lemmas.Nat.{pow_pos}
use Rattle.buddy.specs.MaximalBlock.{LiesWithin, TurnsUp}
use Rattle.buddy.specs.Halves.{AreHalves}
use Rattle.buddy.specs.Heads.{head_at, start_at, buddy_at, AreMaximal}
use Rattle.buddy.specs.InHand.{InHand}
use Rattle.buddy.proofs.Aligned.{start_is}
use Rattle.buddy.proofs.Halves.{buddies, half_within}
use Rattle.buddy.proofs.Heads.{of_head}
use Rattle.buddy.proofs.InHand.{merge, put_back}

module _ (heads : List ℕ) (flags : List Bool) (order start : ℕ) (hand : InHand heads flags order start) where
  abbrev base : ℕ
  base = start_at start (order + 1)

  abbrev other : ℕ
  other = buddy_at start order

  pub halves : AreHalves order base start other
  halves =
      let some = pow_pos order in
      let starts : start_at start order ≡ start = start_is start order start hand.free.aligned (omega arith, omega arith) in
      subst (λ (n : ℕ). AreHalves order base n (buddy_at n order)) starts (buddies start order)

  -- the block that two halves form begins at the first granule of its lower half
  pub lower : (min : ℕ) → (start < other → min ≡ start) → (other ≤ start → min ≡ other) → base ≡ min
  lower min first second =
      let some = pow_pos order in
      elim halves.sides [
        | inl s ↦ let is = first (omega arith) in omega arith
        | inr s ↦ let is = second (omega arith) in omega arith
      ]

  pub joined : (min : ℕ) → base ≡ min → head_at heads other ≡ order + 1 → InHand (set heads other 0) flags (order + 1) min
  joined min is head = subst (InHand (set heads other 0) flags (order + 1)) is (merge heads flags order base start other halves hand head)

  pub wider : (min low first : ℕ) → base ≡ min → LiesWithin low first order start → LiesWithin low first (order + 1) min
  wider min low first is within = let half = half_within order base start other halves in (omega arith, omega arith)

  pub goes_back : order ≤ 9 → (order < 9 → head_at heads other ≢ order + 1) → (head_at heads start ≡ 0) × (start < length heads) × AreMaximal (set heads start (order + 1)) flags
  goes_back low none = put_back heads flags order start hand low base other halves none

  pub ends_in : order ≤ 9 → (order < 9 → head_at heads other ≢ order + 1) → (low first turns : ℕ) → LiesWithin low first order start → turns + low ≡ order + 1 → TurnsUp flags low first turns
  ends_in top none low first turns within counted =
      let back = goes_back top none in
      record {
        larger = order;
        start = start;
        maximal = of_head (set heads start (order + 1)) flags back.2 order start (get_or-set_same heads start (order + 1) 0 back.1);
        within = within;
        counted = counted;
      }

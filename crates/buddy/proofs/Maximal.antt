-- Proofs that each free block lies in a maximal free block, and that no two maximal free blocks share a granule.
use Rattle.std.proofs.Common.{◌≡◌, ◌≢◌, ℕ, zero, suc, ◌+◌, ◌-◌, ◌%◌, ◌^◌, ◌<◌, ◌≤◌, Bool, true, List, inl, inr, arith}
use Rattle.std.proofs.Math.Pow.{pow_mono}
use Rattle.std.proofs.lemmas.Bool.{cases_lt}
use Rattle.std.proofs.lemmas.Nat.{pow_pos}
use Rattle.page_arena.specs.Block.{IsFreeBlock, with_taken}
use Rattle.buddy.specs.MaximalBlock.{IsMaximalBlock, LiesWithin}
use Rattle.buddy.specs.Halves.{AreHalves}
use Rattle.buddy.specs.Heads.{start_at}
use Rattle.buddy.specs.InHand.{LiesIn}
use Rattle.buddy.proofs.Aligned.{Apart, nested, nested_or_apart, within_itself, start_aligned, start_holds}
use Rattle.buddy.proofs.Halves.{swapped, holds_both}
use Rattle.buddy.proofs.Flags.{half_block, sub_block, free_or_not, block_before, block_beside, none_inside}

-- ---- one maximal block

-- some maximal block contains the block of order `order` that begins at `first`
abbrev pub Holder : List Bool → ℕ → ℕ → Type 0
Holder flags order first = (larger : ℕ) × (start : ℕ) × IsMaximalBlock flags larger start × LiesWithin order first larger start

climb : (flags : List Bool) (more order first : ℕ) → more + order ≡ 9 → IsFreeBlock flags order first → Holder flags order first
climb flags zero order first sum free =
    (order, first, record { low = omega arith; free = free; widest = λ larger start above low wide within. omega arith }, within_itself order first)
climb flags (suc more) order first sum free =
    let base = start_at first (order + 1) in
    let aligned : base % 2 ^ (order + 1) ≡ 0 = start_aligned first (order + 1) in
    let holds : LiesIn first (order + 1) base = start_holds first (order + 1) in
    let some = pow_pos order in
    let inside : LiesWithin order first (order + 1) base = nested order first (order + 1) base (omega arith) free.aligned aligned (omega arith) (omega arith) in
    elim (free_or_not flags (order + 1) base) [
      | inl wider ↦ let h = climb flags more (order + 1) base (omega arith) wider in (h.0, h.1, h.2, (omega arith, omega arith))
      | inr none ↦ (
        order,
        first,
        record {
          low = omega arith;
          free = free;
          widest = λ larger start above low wide within.
              none (sub_block true flags (order + 1) base larger start aligned (nested (order + 1) base larger start (omega arith) aligned wide.aligned (omega arith) (omega arith)) wide);
        },
        within_itself order first,
      )
    ]

pub holder : (flags : List Bool) (order first : ℕ) → order ≤ 9 → IsFreeBlock flags order first → Holder flags order first
holder flags order first low free = climb flags (9 - order) order first (omega arith) free

-- a free block is maximal if its order is 9 or its buddy is not free
pub alone_maximal : (flags : List Bool) (order base one other : ℕ) → AreHalves order base one other → order ≤ 9 → IsFreeBlock flags order one
    → (order < 9 → ¬ (IsFreeBlock flags order other)) → IsMaximalBlock flags order one
alone_maximal flags order base one other halves low free alone = record {
  low = low;
  free = free;
  widest = λ larger start above below wide within.
      let both = holds_both order base one other halves larger start above wide.aligned within in
      let whole = sub_block true flags (order + 1) base larger start halves.aligned both wide in
      alone (omega arith) (half_block true flags order base other one (swapped order base one other halves) whole);
}

-- ---- two maximal blocks

module _ (flags : List Bool) (k g : ℕ) (one : IsMaximalBlock flags k g) where
  pub maximal_apart : (j h : ℕ) → IsMaximalBlock flags j h → h ≢ g → Apart k g j h
  maximal_apart j h other differs =
      elim (nested_or_apart k g j h one.free.aligned other.free.aligned) [
        | inr rest ↦
            elim rest [ inl within ↦ absurd (other.widest k g within.0 one.low one.free within.1) | inr apart ↦ apart ]
        | inl within ↦
            elim (cases_lt k j) [
              | inl less ↦ absurd (one.widest j h less other.low other.free within.1)
              | inr le ↦ let same : 2 ^ j ≤ 2 ^ k = pow_mono le in absurd (differs (omega arith))
            ]
      ]

  pub same_order : (j : ℕ) → IsMaximalBlock flags j g → j ≡ k
  same_order j other =
      elim (cases_lt j k) [
        | inl less ↦ let fits : 2 ^ j ≤ 2 ^ k = pow_mono (omega arith) in absurd (other.widest k g less one.low one.free (omega arith, omega arith))
        | inr le ↦
            elim (cases_lt k j) [
              | inl less ↦ let fits : 2 ^ k ≤ 2 ^ j = pow_mono (omega arith) in absurd (one.widest j g less other.low other.free (omega arith, omega arith))
              | inr ge ↦ omega arith
            ]
      ]

  -- ---- a maximal block is taken

  abbrev rest : List Bool
  rest = with_taken flags k g

  -- after a maximal block is taken, every other maximal block is still maximal
  pub maximal_beside : (j h : ℕ) → IsMaximalBlock flags j h → h ≢ g → IsMaximalBlock rest j h
  maximal_beside j h other differs = record {
    low = other.low;
    free = block_beside flags k g one.free j h (maximal_apart j h other differs) other.free;
    widest = λ larger start above low wide within. other.widest larger start above low (block_before flags k g one.free larger start wide) within;
  }

  -- a block that is maximal after the take was maximal before, and does not begin where the taken one does
  pub maximal_before : (j h : ℕ) → IsMaximalBlock rest j h → IsMaximalBlock flags j h × (h ≢ g)
  maximal_before j h other =
      let some = pow_pos k in (
        record {
          low = other.low;
          free = block_before flags k g one.free j h other.free;
          widest = λ larger start above low wide within.
              elim (nested_or_apart k g larger start one.free.aligned wide.aligned) [
                | inr split ↦
                    elim split [
                      | inl smaller ↦ none_inside flags k g one.free j h (starts_inside larger start within smaller.1) other.free
                      | inr apart ↦ other.widest larger start above low (block_beside flags k g one.free larger start apart wide) within
                    ]
                | inl holds ↦
                    elim (cases_lt k larger) [
                      | inl less ↦ one.widest larger start less low wide holds.1
                      | inr le ↦
                          let same : 2 ^ larger ≤ 2 ^ k = pow_mono le in
                          none_inside flags k g one.free j h (starts_inside larger start within (omega arith, omega arith)) other.free
                    ]
              ];
        },
        λ (here : h ≡ g). none_inside flags k g one.free j h (omega arith, omega arith) other.free,
      )
    where
      starts_inside : (larger start : ℕ) → LiesWithin j h larger start → LiesWithin larger start k g → LiesIn h k g
      starts_inside larger start within inside = let some = pow_pos j in (omega arith, omega arith)

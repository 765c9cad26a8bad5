-- Proofs that a block can be cut from the start of a listed block of the same or a higher order. Cutting it from the
-- smallest such block visits the fewest block orders.
use Rattle.std.proofs.Common.{◌≡◌, ℕ, ◌+◌, ◌%◌, ◌^◌, ◌<◌, ◌≤◌, Bool, true, List, length, inl, inr, subst, arith}
use Rattle.std.specs.Prelude.{Option, None, Some, IfNone}
use Rattle.std.proofs.Math.Pow.{pow_mono}
use Rattle.std.proofs.lemmas.Bool.{cases_eq, cases_lt}
use Rattle.std.proofs.lemmas.Nat.{pow_pos}
use Rattle.page_arena.specs.Block.{IsFreeBlock}
use Rattle.buddy.specs.MaximalBlock.{IsMaximalBlock, LiesWithin, TurnsUp}
use Rattle.buddy.specs.Heads.{head_at, AreMaximal}
use Rattle.buddy.specs.InHand.{AllBelow}
use Rattle.buddy.specs.Links.{HasHead}
use Rattle.buddy.proofs.Aligned.{mod_lower}
use Rattle.buddy.proofs.Flags.{sub_block}
use Rattle.buddy.proofs.Heads.{of_head, head_of}
use Rattle.buddy.proofs.Maximal.{maximal_apart, same_order}

-- if a statement holds, `IfNone` with that statement holds of any result
pub if_none : {X P : Type 0} (found : Option X) → P → IfNone found P
if_none None p = p
if_none (Some x) p = tt

module _ (heads : List ℕ) (flags : List Bool) (lists : AreMaximal heads flags) (order found first : ℕ) (head : head_at heads first ≡ found + 1) (from : order ≤ found) where
  pub whole : IsMaximalBlock flags found first
  whole = of_head heads flags lists found first head

  fits : LiesWithin order first found first
  fits = let smaller : 2 ^ order ≤ 2 ^ found = pow_mono from in (omega arith, omega arith)

  pub aligned : first % 2 ^ order ≡ 0
  aligned = mod_lower first found order from whole.free.aligned

  pub block : IsFreeBlock flags order first
  block = sub_block true flags order first found first aligned fits whole.free

  pub inside : first < length heads
  inside = let within = whole.free.inside in let sized = lists.sized in let some = pow_pos found in omega arith

  -- no maximal block of an order above `found` contains the granule `first`
  pub alone_above : AllBelow flags first (found + 1)
  alone_above larger start maximal holds =
      elim (cases_eq start first) [
        | inl same ↦
            let order_is : larger ≡ found = same_order flags found first whole larger (subst (λ (n : ℕ). IsMaximalBlock flags larger n) same maximal) in
            omega arith
        | inr differs ↦
            let some = pow_pos found in
            elim (maximal_apart flags found first whole larger start maximal differs) [ inl after ↦ absurd (omega arith) | inr before ↦ absurd (omega arith) ]
      ]

  module _ (turns : ℕ) (counted : turns + order ≡ found + 1) where
    pub turns_up : TurnsUp flags order first turns
    turns_up = record { larger = found; start = first; maximal = whole; within = fits; counted = counted }

    pub least : ((k : ℕ) → order ≤ k → k < found → ¬ (HasHead heads k)) → (larger start : ℕ) → order ≤ larger → IsMaximalBlock flags larger start → turns + order ≤ larger + 1
    least lowest larger start from_order maximal =
        elim (cases_lt larger found) [
          | inl less ↦ absurd (lowest larger from_order less (start, head_of heads flags lists larger start maximal))
          | inr le ↦ omega arith
        ]

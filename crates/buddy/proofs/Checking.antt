-- Proofs that each iteration of the loop in `cut_out` preserves the loop's invariant. After the loop, `found` is true
-- if and only if the requested block is free.
use Rattle.std.proofs.Common.{◌≡◌, ◌≢◌, ℕ, ◌+◌, ◌%◌, ◌^◌, ◌<◌, ◌≤◌, ◌↔◌, Bool, true, false, List, length, set, inl, inr, refl, sym, ap, subst, ◌∙◌, arith}
use Rattle.std.specs.Prelude.{IsTrue}
use Rattle.std.specs.Bool.{OnTrue}
use Rattle.std.proofs.lemmas.Bool.{cases_lt, true≢false}
use Rattle.std.proofs.lemmas.Nat.{pow_pos, pow_below}
use Rattle.page_arena.specs.Block.{IsFreeBlock, with_taken}
use Rattle.buddy.specs.Heads.{head_at, start_at, buddy_at, AreMaximal}
use Rattle.buddy.specs.InHand.{InHand, HasChecked}
use Rattle.buddy.proofs.Aligned.{start_is}
use Rattle.buddy.proofs.Halves.{buddies}
use Rattle.buddy.proofs.Maximal.{holder}
use Rattle.buddy.proofs.Heads.{head_of}
use Rattle.buddy.proofs.InHand.{come_to_hand, split}

module _ (heads : List ℕ) (flags : List Bool) (granule order : ℕ) where
  abbrev start : ℕ
  start = start_at granule order

  abbrev other : ℕ
  other = buddy_at start order

  -- if a block was found, the invariant holds after that block is split and its half `other`, which does not contain
  -- `granule`, is put into a free list
  pub check_split : HasChecked heads flags granule (order + 1) true → (head_at heads other ≡ 0) × (other < length heads) × HasChecked (set heads other (order + 1)) flags granule order true
  check_split checked =
      let hand = checked.in_hand refl in
      let parts = split heads flags order (start_at granule (order + 1)) start other (buddies granule order) hand.1 (let low = hand.0 in omega arith) in (
        parts.0,
        parts.1,
        record { in_hand = λ _. (let low = hand.0 in omega arith, parts.2); not_yet = λ is. absurd (true≢false is) },
      )

  module _ (checked : HasChecked heads flags granule (order + 1) false) where
    -- if the block of order `order` that contains `granule` is listed, the invariant holds with `found` true after the
    -- block is taken out of its list
    pub check_taken : order < 10 → head_at heads start ≡ order + 1 → HasChecked (set heads start 0) flags granule order true
    check_taken low head =
        let before = checked.not_yet refl in
        record { in_hand = λ _. (omega arith, come_to_hand heads flags order start before.0 head); not_yet = λ is. absurd (true≢false is) }

    -- if the block of order `order` that contains `granule` is not listed, the invariant still holds with `found` false
    pub check_on : head_at heads start ≢ order + 1 → HasChecked heads flags granule order false
    check_on none =
        let before = checked.not_yet refl in
        record {
          in_hand = λ is. absurd (true≢false (sym is));
          not_yet = λ _. (
            before.0,
            λ larger first maximal inside.
                let below = before.1 larger first maximal inside in
                elim (cases_lt larger order) [
                  | inl less ↦ less
                  | inr le ↦
                      let same : larger ≡ order = omega arith in
                      let here : start_at granule larger ≡ first = start_is granule larger first maximal.free.aligned inside in
                      let head : head_at heads first ≡ larger + 1 = head_of heads flags before.0 larger first maximal in
                      absurd (none (ap (λ (k : ℕ). head_at heads (start_at granule k)) (sym same) ∙ ap (head_at heads) here ∙ head ∙ ap (λ (k : ℕ). k + 1) same))
                ],
          );
        }

module _ (heads : List ℕ) (flags : List Bool) (order first : ℕ) (aligned : first % 2 ^ order ≡ 0) where
  -- rounding the first granule of an aligned block down to a block of the same order leaves the granule as it is
  starts : start_at first order ≡ first
  starts = let some = pow_pos order in start_is first order first aligned (omega arith, omega arith)

  pub found_free : HasChecked heads flags first order true → IsFreeBlock flags order first × AreMaximal heads (with_taken flags order first)
  found_free checked =
      let hand = checked.in_hand refl in
      let here = subst (InHand heads flags order) starts hand.1 in
      (here.free, here.others)

  pub none_found : order ≤ 9 → HasChecked heads flags first order false → ¬ (IsFreeBlock flags order first)
  none_found low checked free =
      let h = holder flags order first low free in
      let within = h.3 in
      let some = pow_pos order in
      let below : h.0 < order = (checked.not_yet refl).1 h.0 h.1 h.2 (omega arith, omega arith) in
      let less : 2 ^ h.0 < 2 ^ order = pow_below h.0 order below in
      omega arith

  -- If the loop's invariant holds at the order of an aligned block, the block is free if and only if `found` is true.
  -- In that case the listed blocks are exactly the maximal free blocks once the block's granules are taken.
  pub checked_all : order ≤ 9 → (found : Bool) → HasChecked heads flags first order found → (IsTrue found ↔ IsFreeBlock flags order first)
      × OnTrue found (AreMaximal heads (with_taken flags order first))
  checked_all low true checked = ((λ _. (found_free checked).0, λ _. refl), (found_free checked).1)
  checked_all low false checked = ((λ is. absurd (true≢false (sym is)), λ free. absurd (none_found low checked free)), tt)

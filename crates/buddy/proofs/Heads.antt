-- Proofs that the listed blocks are still exactly the maximal free blocks when a maximal free block is taken and
-- unlisted, or freed and listed. A granule's head, `head_at`, gives the listed block that begins there.
use Rattle.std.proofs.Common.{◌≡◌, ℕ, ◌+◌, ◌-◌, ◌^◌, ◌<◌, ◌≤◌, Bool, true, false, List, length, set, inl, inr, sym, ap, subst, ◌∙◌, arith, length-set}
use Rattle.std.proofs.lemmas.Bool.{cases_eq, cases_lt}
use Rattle.std.proofs.lemmas.List.{get_or-set_same, get_or-set_other}
use Rattle.std.proofs.lemmas.Nat.{pow_pos, pow_below}
use Rattle.page_arena.specs.Page.{is_free}
use Rattle.page_arena.specs.Block.{IsFreeBlock, with_taken}
use Rattle.page_arena.specs.Blocks.{length-with_taken}
use Rattle.buddy.specs.MaximalBlock.{IsMaximalBlock}
use Rattle.buddy.specs.Heads.{head_at, AreMaximal}
use Rattle.buddy.proofs.Flags.{clash, first_flag}
use Rattle.buddy.proofs.Maximal.{holder, same_order, maximal_beside, maximal_before}

module _ (heads : List ℕ) (flags : List Bool) (lists : AreMaximal heads flags) where
  -- each listed block is a maximal free block
  pub of_head : (order first : ℕ) → head_at heads first ≡ order + 1 → IsMaximalBlock flags order first
  of_head order first head = (lists.each order first).0 head

  pub head_of : (order first : ℕ) → IsMaximalBlock flags order first → head_at heads first ≡ order + 1
  head_of order first maximal = (lists.each order first).1 maximal

  -- if a granule is not free, no listed block begins at the granule
  pub no_head : (granule : ℕ) → is_free flags granule ≡ false → head_at heads granule ≡ 0
  no_head granule taken =
      elim (cases_eq (head_at heads granule) 0) [
        | inl none ↦ none
        | inr some ↦
            let head : head_at heads granule ≡ head_at heads granule - 1 + 1 = omega arith in
            let maximal = of_head (head_at heads granule - 1) granule head in
            clash (is_free flags granule) (first_flag true flags (head_at heads granule - 1) granule maximal.free) taken
      ]

  -- if no free block of order `order` or above is listed, no block of order `order`, at most 9, is free
  pub none_free : (order : ℕ) → order ≤ 9 → ((k g : ℕ) → order ≤ k → k ≤ 9 → ¬ (head_at heads g ≡ k + 1)) → (first : ℕ) → ¬ (IsFreeBlock flags order first)
  none_free order low none first free =
      let h = holder flags order first low free in
      let maximal = h.2 in
      let at_most = maximal.low in
      elim (cases_lt h.0 order) [
        | inl less ↦ let more : 2 ^ h.0 < 2 ^ order = pow_below h.0 order less in omega arith
        | inr le ↦ none h.0 h.1 le at_most (head_of h.0 h.1 maximal)
      ]

-- ---- a maximal block is taken

module _ (flags : List Bool) (k g : ℕ) (block : IsMaximalBlock flags k g) where
  abbrev rest : List Bool
  rest = with_taken flags k g

  pub take_step : (heads : List ℕ) → AreMaximal heads flags → AreMaximal (set heads g 0) rest
  take_step heads lists = record {
    sized = length-set heads g 0 ∙ lists.sized ∙ sym (length-with_taken flags k g block.free);
    each = λ order first. (λ (head : head_at (set heads g 0) first ≡ order + 1). forward order first head, λ maximal. backward order first maximal);
  }
    where
      within : g < length heads
      within = let fits = block.free.inside in let some = pow_pos k in let sized = lists.sized in omega arith

      forward : (order first : ℕ) → head_at (set heads g 0) first ≡ order + 1 → IsMaximalBlock rest order first
      forward order first head =
          elim (cases_eq first g) [
            | inl here ↦
                let none : head_at (set heads g 0) g ≡ 0 = get_or-set_same heads g 0 0 within in
                let same : head_at (set heads g 0) first ≡ head_at (set heads g 0) g = ap (head_at (set heads g 0)) here in
                absurd (omega arith)
            | inr differs ↦
                maximal_beside flags k g block order first (of_head heads flags lists order first (sym (get_or-set_other heads g first 0 0 differs) ∙ head)) differs
          ]

      backward : (order first : ℕ) → IsMaximalBlock rest order first → head_at (set heads g 0) first ≡ order + 1
      backward order first maximal =
          let before = maximal_before flags k g block order first maximal in
          get_or-set_other heads g first 0 0 before.1 ∙ head_of heads flags lists order first before.0

  -- once a taken maximal block is given back and listed, the listed blocks are again exactly the maximal free blocks
  pub put_step : (heads : List ℕ) → AreMaximal heads rest → AreMaximal (set heads g (k + 1)) flags
  put_step heads lists = record {
    sized = length-set heads g (k + 1) ∙ lists.sized ∙ length-with_taken flags k g block.free;
    each = λ order first. (λ (head : head_at (set heads g (k + 1)) first ≡ order + 1). forward order first head, λ maximal. backward order first maximal);
  }
    where
      within : g < length heads
      within =
          let fits = block.free.inside in
          let some = pow_pos k in
          let sized = lists.sized in
          let len = length-with_taken flags k g block.free in
          omega arith

      here_is : head_at (set heads g (k + 1)) g ≡ k + 1
      here_is = get_or-set_same heads g (k + 1) 0 within

      forward : (order first : ℕ) → head_at (set heads g (k + 1)) first ≡ order + 1 → IsMaximalBlock flags order first
      forward order first head =
          elim (cases_eq first g) [
            | inl here ↦
                let is = here_is in
                let same : head_at (set heads g (k + 1)) first ≡ head_at (set heads g (k + 1)) g = ap (head_at (set heads g (k + 1))) here in
                let orders : k ≡ order = omega arith in
                subst (λ (n : ℕ). IsMaximalBlock flags order n) (sym here) (subst (λ (n : ℕ). IsMaximalBlock flags n g) orders block)
            | inr differs ↦
                (maximal_before flags k g block order first (of_head heads rest lists order first (sym (get_or-set_other heads g first (k + 1) 0 differs) ∙ head))).0
          ]

      backward : (order first : ℕ) → IsMaximalBlock flags order first → head_at (set heads g (k + 1)) first ≡ order + 1
      backward order first maximal =
          elim (cases_eq first g) [
            | inl here ↦
                let order_is : order ≡ k = same_order flags k g block order (subst (λ (n : ℕ). IsMaximalBlock flags order n) here maximal) in
                ap (head_at (set heads g (k + 1))) here ∙ here_is ∙ ap (λ (n : ℕ). n + 1) (sym order_is)
            | inr differs ↦ get_or-set_other heads g first (k + 1) 0 differs ∙ head_of heads rest lists order first (maximal_beside flags k g block order first maximal differs)
          ]

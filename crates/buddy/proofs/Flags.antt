-- Lemmas on the flags of free granules: which blocks are free, and what changes when a block, or half of a block, is
-- taken.
use Rattle.std.proofs.Common.{◌≡◌, ℕ, zero, suc, ◌+◌, ◌%◌, ◌^◌, ◌<◌, ◌≤◌, Bool, true, false, List, length, ◌⊎◌, inl, inr, sym, ap, subst, ◌∙◌, arith}
use Rattle.std.proofs.Math.Nat.{mod-one}
use Rattle.std.proofs.lemmas.Bool.{cases_Bool, cases_eq, cases_lt, true≢false}
use Rattle.std.proofs.lemmas.List.{ext_get_or, get_or_past}
use Rattle.std.proofs.lemmas.Nat.{pow_pos}
use Rattle.page_arena.specs.Page.{is_free}
use Rattle.page_arena.specs.Block.{IsBlock, IsFreeBlock, with_taken}
use Rattle.page_arena.specs.Blocks.{length-with_taken, is_free-with_taken_inside, is_free-with_taken_outside}
use Rattle.page_arena.specs.Runs.{inside_or_outside}
use Rattle.buddy.specs.MaximalBlock.{LiesWithin}
use Rattle.buddy.specs.Halves.{AreHalves}
use Rattle.buddy.specs.InHand.{LiesIn}
use Rattle.buddy.proofs.Aligned.{Apart, double, outside_of}
use Rattle.buddy.proofs.Halves.{lower_first, swapped, half_aligned, half_within, halves_apart, in_half}

-- a flag is not both true and false
pub clash : {P : Type 0} (b : Bool) → b ≡ true → b ≡ false → P
clash b is is_not = absurd (true≢false (sym is ∙ is_not))

-- a granule that is free according to the flags is one of the granules of the machine
pub free_inside : (flags : List Bool) (x : ℕ) → is_free flags x ≡ true → x < length flags
free_inside flags x free =
    elim (cases_lt x (length flags)) [ inl within ↦ within | inr outside ↦ clash (is_free flags x) free (get_or_past flags x false outside) ]

pub one_page : (flags : List Bool) (x : ℕ) → is_free flags x ≡ true → IsFreeBlock flags 0 x
one_page flags x free =
    let inside = free_inside flags x free in
    record {
      aligned = mod-one x;
      inside = omega arith;
      run = record { each = λ granule low high. let here : granule ≡ x = omega arith in ap (is_free flags) here ∙ free };
    }

module _ (flag : Bool) (flags : List Bool) where
  -- if every granule of a block has the flag `flag`, the block's first granule has it
  pub first_flag : (order first : ℕ) → IsBlock flag flags order first → is_free flags first ≡ flag
  first_flag order first block = let some = pow_pos order in block.run.each first (omega arith) (omega arith)

  -- if all granules of a block have the flag, all granules of an aligned block within that block have the flag too
  pub sub_block : (k g j h : ℕ) → g % 2 ^ k ≡ 0 → LiesWithin k g j h → IsBlock flag flags j h → IsBlock flag flags k g
  sub_block k g j h aligned within block =
      let fits = block.inside in
      record {
        aligned = aligned;
        inside = omega arith;
        run = record { each = λ granule low high. block.run.each granule (omega arith) (omega arith) };
      }

  module _ (order base one other : ℕ) (halves : AreHalves order base one other) where
    pub whole_block : IsBlock flag flags order one → IsBlock flag flags order other → IsBlock flag flags (order + 1) base
    whole_block first second =
        let fits = first.inside in
        let fits_too = second.inside in
        let d = double order in
        record {
          aligned = halves.aligned;
          inside = elim halves.sides [ inl s ↦ omega arith | inr s ↦ omega arith ];
          run = record {
            each = λ granule low high.
                elim (in_half order base one other halves granule (low, high)) [
                  | inl i ↦ first.run.each granule i.0 i.1
                  | inr i ↦ second.run.each granule i.0 i.1
                ];
          };
        }

    pub half_block : IsBlock flag flags (order + 1) base → IsBlock flag flags order one
    half_block block = sub_block order one (order + 1) base (half_aligned order base one other halves) (half_within order base one other halves) block

-- ---- a block is free, or not

free_next : (flags : List Bool) (order : ℕ) → ((first : ℕ) → IsFreeBlock flags order first ⊎ ¬ (IsFreeBlock flags order first))
    → (first : ℕ) → IsFreeBlock flags (order + 1) first ⊎ ¬ (IsFreeBlock flags (order + 1) first)
free_next flags order known first =
    elim (cases_eq (first % 2 ^ (order + 1)) 0) [
      | inr slanted ↦ inr (λ block. slanted block.aligned)
      | inl aligned ↦
          let halves = lower_first order first aligned in
          elim (known first) [
            | inr none ↦ inr (λ block. none (half_block true flags order first first (first + 2 ^ order) halves block))
            | inl low ↦
                elim (known (first + 2 ^ order)) [
                  | inr none ↦ inr (λ block. none (half_block true flags order first (first + 2 ^ order) first (swapped order first first (first + 2 ^ order) halves) block))
                  | inl high ↦ inl (whole_block true flags order first first (first + 2 ^ order) halves low high)
                ]
          ]
    ]

pub free_or_not : (flags : List Bool) (order first : ℕ) → IsFreeBlock flags order first ⊎ ¬ (IsFreeBlock flags order first)
free_or_not flags zero first =
    elim (cases_Bool (is_free flags first)) [
      | inl free ↦ inl (one_page flags first free)
      | inr taken ↦ inr (λ block. clash (is_free flags first) (first_flag true flags 0 first block) taken)
    ]
free_or_not flags (suc order) first =
    let next : order + 1 ≡ suc order = omega arith in
    let found = free_next flags order (free_or_not flags order) first in
    subst (λ (k : ℕ). IsFreeBlock flags k first ⊎ ¬ (IsFreeBlock flags k first)) next found

-- ---- a block is taken

module _ (flags : List Bool) (k g : ℕ) (block : IsFreeBlock flags k g) where
  abbrev rest : List Bool
  rest = with_taken flags k g

  -- a granule that is free after the take was free before
  free_before : (x : ℕ) → is_free rest x ≡ true → is_free flags x ≡ true
  free_before x free =
      elim (inside_or_outside g (2 ^ k) x) [
        | inl i ↦ clash (is_free rest x) free (is_free-with_taken_inside flags k g block x i.0 i.1)
        | inr o ↦ sym (is_free-with_taken_outside flags k g block x o) ∙ free
      ]

  pub block_before : (j h : ℕ) → IsFreeBlock rest j h → IsFreeBlock flags j h
  block_before j h free =
      let len = length-with_taken flags k g block in
      let fits = free.inside in
      record {
        aligned = free.aligned;
        inside = omega arith;
        run = record { each = λ x low high. free_before x (free.run.each x low high) };
      }

  -- a free block that shares no granule with the taken one stays free
  pub block_beside : (j h : ℕ) → Apart k g j h → IsFreeBlock flags j h → IsFreeBlock rest j h
  block_beside j h apart free =
      let len = length-with_taken flags k g block in
      let fits = free.inside in
      record {
        aligned = free.aligned;
        inside = omega arith;
        run = record { each = λ x low high. is_free-with_taken_outside flags k g block x (outside_of k g j h x apart (low, high)) ∙ free.run.each x low high };
      }

  -- after a block is taken, no free block begins inside the taken block
  pub none_inside : (j h : ℕ) → LiesIn h k g → ¬ (IsFreeBlock rest j h)
  none_inside j h inside free = clash (is_free rest h) (first_flag true rest j h free) (is_free-with_taken_inside flags k g block h inside.0 inside.1)

-- ---- halves are taken one by one, and one is given back

module _ (flags : List Bool) (order base one other : ℕ) (halves : AreHalves order base one other) (whole : IsFreeBlock flags (order + 1) base) where
  abbrev less : List Bool
  less = with_taken flags order one

  first_half : IsFreeBlock flags order one
  first_half = half_block true flags order base one other halves whole

  pub second_half : IsFreeBlock less order other
  second_half =
      block_beside flags order one first_half order other (halves_apart order base one other halves)
      (half_block true flags order base other one (swapped order base one other halves) whole)

  pub both_taken : with_taken less order other ≡ with_taken flags (order + 1) base
  both_taken =
      let one_within = half_within order base one other halves in
      let other_within = half_within order base other one (swapped order base one other halves) in
      let lengths = length-with_taken less order other second_half ∙ length-with_taken flags order one first_half ∙ sym (length-with_taken flags (order + 1) base whole) in
      ext_get_or false (with_taken less order other) (with_taken flags (order + 1) base) lengths (λ x lt.
      elim (inside_or_outside other (2 ^ order) x) [
        | inl i ↦ is_free-with_taken_inside less order other second_half x i.0 i.1 ∙ sym (is_free-with_taken_inside flags (order + 1) base whole x (omega arith) (omega arith))
        | inr o ↦
            is_free-with_taken_outside less order other second_half x o
            ∙ elim (inside_or_outside one (2 ^ order) x) [
              | inl i ↦ is_free-with_taken_inside flags order one first_half x i.0 i.1 ∙ sym (is_free-with_taken_inside flags (order + 1) base whole x (omega arith) (omega arith))
              | inr p ↦
                  is_free-with_taken_outside flags order one first_half x p
                  ∙ sym (is_free-with_taken_outside flags (order + 1) base whole x (beside x o p))
            ]
      ])
    where
      beside : (x : ℕ) → (x < other) ⊎ (other + 2 ^ order ≤ x) → (x < one) ⊎ (one + 2 ^ order ≤ x) → (x < base) ⊎ (base + 2 ^ (order + 1) ≤ x)
      beside x o p =
          elim (inside_or_outside base (2 ^ (order + 1)) x) [
            | inr out ↦ out
            | inl i ↦
                elim (in_half order base one other halves x i) [
                  | inl in_one ↦ elim p [ inl l ↦ absurd (omega arith) | inr l ↦ absurd (omega arith) ]
                  | inr in_other ↦ elim o [ inl l ↦ absurd (omega arith) | inr l ↦ absurd (omega arith) ]
                ]
          ]

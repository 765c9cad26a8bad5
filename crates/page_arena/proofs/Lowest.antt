-- Proofs that a linear scan finds the lowest free block of an order, or nothing if there is no such block.
use Rattle.std.proofs.Common.{◌≡◌, ℕ, suc, ◌+◌, ◌-◌, ◌*◌, ◌/◌, ◌%◌, ◌^◌, ◌<◌, ◌≤◌, Bool, true, false, List, length, get_or, inl, inr, refl, sym, ap, subst, ◌∙◌, arith}
use Rattle.std.specs.Prelude.{◌==◌, ◌&&◌, if◌then◌else◌, None, Some, nat_le, nat_lt}
use Rattle.std.specs.List.{list_all, range_with_len}
use Rattle.std.specs.Cmp.Derive.{both_true}
use Rattle.std.proofs.Math.Nat.{div-add-mod', le-div_iff_mul-le, suc-mul}
use Rattle.std.proofs.lemmas.Bool.{cases_Bool, cond-true, eqb-true, eq-eqb, leb-true, le-leb, lt-ltb, true≢false}
use Rattle.std.proofs.lemmas.List.Elements.{All-from_get_or}
use Rattle.std.proofs.lemmas.List.FromFn.{length-range_with_len, get_or-range_with_len}
use Rattle.std.proofs.lemmas.List.Sums.{AllPass-from_list_all, list_all-from_AllPass}
use Rattle.std.proofs.lemmas.Nat.{pow_pos}
use Rattle.page_arena.specs.Page.{is_free}
use Rattle.page_arena.specs.Block.{IsRun, IsFreeBlock}
use Rattle.page_arena.specs.LowestBlock.{begins_free_block, lowest_block}
use Rattle.page_arena.proofs.Find.{find_none, find_at}

both_left : (a b : Bool) → (a && b) ≡ true → a ≡ true
both_left true b both = refl
both_left false b both = both

both_right : (a b : Bool) → (a && b) ≡ true → b ≡ true
both_right true b both = both
both_right false b both = absurd (true≢false (sym both))

module _ (flags : List Bool) (order : ℕ) where
  module _ (first : ℕ) where
    abbrev run : List ℕ
    run = range_with_len first (2 ^ order)

    free_at : list_all (is_free flags) run ≡ true → (granule : ℕ) → first ≤ granule → granule < first + 2 ^ order → is_free flags granule ≡ true
    free_at all granule low high =
        let here : first + (granule - first) ≡ granule = omega arith in
        let less : granule - first < 2 ^ order = omega arith in
        let inside : granule - first < length run = omega (arith, length-range_with_len first (2 ^ order)) in
        ap (is_free flags) (sym (get_or-range_with_len first (2 ^ order) (granule - first) 0 less ∙ here))
        ∙ AllPass-from_list_all (is_free flags) run all (granule - first) 0 inside

    -- if `begins_free_block` is true of a granule, a free block begins at that granule
    pub block_from_test : begins_free_block flags order first ≡ true → IsFreeBlock flags order first
    unfolding begins_free_block
    block_from_test is =
        let rest = both_right (first % 2 ^ order == 0) (nat_le (first + 2 ^ order) (length flags) && list_all (is_free flags) run) is in
        record {
          aligned = eqb-true (first % 2 ^ order) 0 (both_left (first % 2 ^ order == 0) (nat_le (first + 2 ^ order) (length flags) && list_all (is_free flags) run) is);
          inside = leb-true (first + 2 ^ order) (length flags) (both_left (nat_le (first + 2 ^ order) (length flags)) (list_all (is_free flags) run) rest);
          run = record { each = free_at (both_right (nat_le (first + 2 ^ order) (length flags)) (list_all (is_free flags) run) rest) };
        }

    pub test_from_block : IsFreeBlock flags order first → begins_free_block flags order first ≡ true
    unfolding begins_free_block
    test_from_block block =
        both_true (eq-eqb (first % 2 ^ order) 0 block.aligned) (both_true (le-leb (first + 2 ^ order) (length flags) block.inside)
        (list_all-from_AllPass (is_free flags) run (All-from_get_or (λ granule. is_free flags granule ≡ true) run 0 (λ i inside.
        let less : i < 2 ^ order = omega (arith, length-range_with_len first (2 ^ order)) in
        ap (is_free flags) (get_or-range_with_len first (2 ^ order) i 0 less) ∙ block.run.each (first + i) (omega arith) (omega arith)))))

    test_fails : ¬ (IsFreeBlock flags order first) → begins_free_block flags order first ≡ false
    test_fails none = elim (cases_Bool (begins_free_block flags order first)) [ inl is ↦ absurd (none (block_from_test is)) | inr is_not ↦ is_not ]

  abbrev granules : List ℕ
  granules = range_with_len 0 (length flags)

  none_at : (k : ℕ) → k < length granules → ¬ (IsFreeBlock flags order k) → begins_free_block flags order (get_or granules k 0) ≡ false
  none_at k inside none =
      let less : k < length flags = omega (arith, length-range_with_len 0 (length flags)) in
      ap (begins_free_block flags order) (get_or-range_with_len 0 (length flags) k 0 less ∙ omega arith) ∙ test_fails k none

  pub lowest_block_none : ((first : ℕ) → ¬ (IsFreeBlock flags order first)) → lowest_block flags order ≡ None
  unfolding lowest_block
  lowest_block_none none = find_none (begins_free_block flags order) granules 0 (λ k inside. none_at k inside (none k))

  pub lowest_block_at : (first : ℕ) → IsFreeBlock flags order first → ((lower : ℕ) → lower < first → ¬ (IsFreeBlock flags order lower)) → lowest_block flags order ≡ Some first
  unfolding lowest_block
  lowest_block_at first block lowest =
      let some = pow_pos order in let fits = block.inside in
      let less : first < length flags = omega arith in
      let inside : first < length granules = omega (arith, length-range_with_len 0 (length flags)) in
      let read : get_or granules first 0 ≡ first = get_or-range_with_len 0 (length flags) first 0 less ∙ omega arith in
      find_at (begins_free_block flags order) granules first 0 inside (ap (begins_free_block flags order) read ∙ test_from_block first block)
      (λ k lt. none_at k (omega arith) (lowest k lt))
      ∙ ap Some read

-- the range check of a granule number passes for each number below 4096
pub granule_at : (n : ℕ) → n < 4096 → (if nat_lt n 4096 && nat_lt n 4096 then Some n else None) ≡ Some n
granule_at n low = cond-true (nat_lt n 4096 && nat_lt n 4096) (Some n) None (both_true (lt-ltb n 4096 low) (lt-ltb n 4096 low))

-- ---- the blocks of an order are checked by number

module _ (flags : List Bool) (order size : ℕ) (size_is : size ≡ 2 ^ order) where
  abbrev NoneAt : ℕ → Type 0
  NoneAt block = ¬ (IsRun true flags (block * size) size)

  starts : (first : ℕ) → first % 2 ^ order ≡ 0 → first / size * size ≡ first
  starts first aligned =
      let parts : first / size * size + first % size ≡ first = div-add-mod' first size in
      let rest : first % size ≡ 0 = ap (λ (n : ℕ). first % n) size_is ∙ aligned in
      omega arith

  run_at : (first : ℕ) → IsFreeBlock flags order first → IsRun true flags (first / size * size) size
  run_at first block =
      subst (λ (n : ℕ). IsRun true flags n size) (sym (starts first block.aligned)) (subst (λ (n : ℕ). IsRun true flags first n) (sym size_is) block.run)

  pub none_found : ((block : ℕ) → block < length flags / size → NoneAt block) → lowest_block flags order ≡ None
  none_found none = lowest_block_none flags order (λ first block.
      let some = pow_pos order in
      let fits = block.inside in
      let start = starts first block.aligned in
      let next : suc (first / size) * size ≡ first / size * size + size = suc-mul (first / size) size in
      let within : suc (first / size) * size ≤ length flags = omega arith in
      let positive : 0 < size = omega arith in
      let less : suc (first / size) ≤ length flags / size = (le-div_iff_mul-le positive).1 within in
      none (first / size) less (run_at first block))

  pub lowest_found : (first : ℕ) → first % size ≡ 0 → first + size ≤ length flags → IsRun true flags first size
      → ((block : ℕ) → block * size < first → NoneAt block) → lowest_block flags order ≡ Some first
  lowest_found first aligned inside run lowest =
      lowest_block_at flags order first
      (record {
        aligned = ap (λ (n : ℕ). first % n) (sym size_is) ∙ aligned;
        inside = subst (λ (n : ℕ). first + n ≤ length flags) size_is inside;
        run = subst (λ (n : ℕ). IsRun true flags first n) size_is run;
      })
      (λ lower less block. let start = starts lower block.aligned in lowest (lower / size) (omega arith) (run_at lower block))

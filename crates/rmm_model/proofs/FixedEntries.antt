-- Lemmas about the search for a table's first entry whose RIPAS a command cannot change: the search passes over entries
-- that can be changed, and ends at one that cannot.
use Rattle.std.proofs.Common.{◌≡◌, ℕ, suc, ◌+◌, ◌-◌, ◌<◌, ◌≤◌, List, true, false, ap, ◌∙◌, arith}
use Rattle.std.proofs.lemmas.Bool.{cond-true, cond-false}
use Rattle.rmm_model.specs.declared.entry.Changeable.{Changeable}
use Rattle.rmm_model.specs.Entry.{can_change}
use Rattle.rmm_model.specs.Table.{entry_in_page, first_fixed}

module _ (changeable : Changeable) (page : List ℕ) (i stop : ℕ) where
  -- the search from an entry that cannot be changed finds that entry
  pub first_fixed_here : i < stop → can_change changeable (entry_in_page page i) ≡ false → first_fixed changeable page (stop - i) i ≡ i
  unfolding first_fixed
  first_fixed_here lt fixed =
      let more : stop - i ≡ suc (stop - (i + 1)) = omega arith in
      ap (λ (n : ℕ). first_fixed changeable page n i) more ∙ cond-false _ _ _ fixed

  -- the search from an entry that can be changed goes on with the next entry
  pub first_fixed_on : i < stop → can_change changeable (entry_in_page page i) ≡ true → first_fixed changeable page (stop - i) i ≡ first_fixed changeable page (stop - (i + 1)) (i + 1)
  unfolding first_fixed
  first_fixed_on lt changes =
      let more : stop - i ≡ suc (stop - (i + 1)) = omega arith in
      ap (λ (n : ℕ). first_fixed changeable page n i) more ∙ cond-true _ _ _ changes

  -- the search from `stop` or an index above it finds no entry, and gives that index
  pub first_fixed_end : stop ≤ i → first_fixed changeable page (stop - i) i ≡ i
  unfolding first_fixed
  first_fixed_end done =
      let none : stop - i ≡ 0 = omega arith in
      ap (λ (n : ℕ). first_fixed changeable page n i) none

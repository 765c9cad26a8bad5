-- The proof that the destruction of a table restores the rows from before its creation, up to RIPAS.
use Rattle.std.proofs.Common.{◌≡◌, ℕ, ◌+◌, ◌-◌, ◌*◌, Bool, true, false, cond, not, Some, None, refl, sym, ap, ◌∙◌}
use Rattle.std.specs.Prelude.{option_map}
use Rattle.std.specs.Ordering.{eq_by_cmp}
use Rattle.std.specs.FinMap.{get, get-insert}
use Rattle.granule_addr.specs.Ipa.{covered_count, first_covered}
use Rattle.realm_model.specs.declared.states.EntryState.TheVariants.{Unassigned}
use Rattle.realm_model.specs.declared.states.Ripas.{Ripas}
use Rattle.realm_model.specs.declared.states.Ripas.TheVariants.{Destroyed}
use Rattle.realm_model.specs.Rows.{Row, Rows, place_cmp, drop_rows, put_row, with_table, without_table, unassigned, table}
use Rattle.realm_model.specs.Ownership.{mapping_of_row, mapping}
use Rattle.realm_model.proofs.Booleans.{false_from, true_false}
use Rattle.realm_model.proofs.Maps.{place_total, same_place}
use Rattle.realm_model.proofs.Rows.{is_among, get-drop_rows, get-put_rows_other, get-put_row_other, among_put, differs}

-- if `rows` are equal, up to RIPAS, to `old` with a new table, then `rows` without the table are equal to `old`, up to
-- RIPAS
module _ (old rows : Rows) (level ipa granule : ℕ) (ripas : Ripas) (above : Row)
    (was : get old (level - 1, first_covered (level - 1) ipa) ≡ Some above) (free : mapping_of_row above ≡ mapping Unassigned None)
    (none_below : (q : ℕ × ℕ) → is_among level ipa (512 * covered_count level) q ≡ true → get old q ≡ None)
    (same : (q : ℕ × ℕ) → option_map mapping_of_row (get (with_table old level ipa granule ripas) q) ≡ option_map mapping_of_row (get rows q)) where
  abbrev above_place : ℕ × ℕ
  above_place = (level - 1, first_covered (level - 1) ipa)

  abbrev is_below : ℕ × ℕ → Bool
  is_below q = is_among level ipa (512 * covered_count level) q

  outside : (q : ℕ × ℕ) → differs q above_place → is_below q ≡ false → get (with_table old level ipa granule ripas) q ≡ get old q
  unfolding with_table
  outside q apart out =
      get-put_rows_other (λ _. unassigned ripas) (put_row old (level - 1) ipa (table granule)) level ipa 512 q
      (λ k h. false_from _ (λ e. true_false (is_below q) (ap is_below (same_place q (level, ipa + k * covered_count level) e) ∙ among_put level ipa 512 k h) out))
      ∙ get-put_row_other old above_place q (table granule) apart

  elsewhere : (q : ℕ × ℕ) → differs q above_place → option_map mapping_of_row (get old q) ≡ option_map mapping_of_row (get (drop_rows rows level ipa (512 * covered_count level)) q)
  elsewhere q apart =
      elim (is_below q) as (λ t. is_below q ≡ t → option_map mapping_of_row (get old q) ≡ option_map mapping_of_row (cond (not t) (get rows q) None)) [
        | true ↦ λ e. ap (option_map mapping_of_row) (none_below q e)
        | false ↦ λ out. sym (ap (option_map mapping_of_row) (outside q apart out)) ∙ same q
      ] refl ∙ sym (ap (option_map mapping_of_row) (get-drop_rows rows level ipa (512 * covered_count level) q))

  pub table_back : (q : ℕ × ℕ) → option_map mapping_of_row (get old q) ≡ option_map mapping_of_row (get (without_table rows level ipa) q)
  unfolding without_table
  table_back q =
      let dropped = drop_rows rows level ipa (512 * covered_count level) in
      elim (eq_by_cmp place_cmp q above_place) as (λ t. eq_by_cmp place_cmp q above_place ≡ t
      → option_map mapping_of_row (get old q) ≡ option_map mapping_of_row (cond t (Some (unassigned Destroyed)) (get dropped q))) [
        | true ↦ λ e. ap (λ x. option_map mapping_of_row (get old x)) (same_place q above_place e) ∙ ap (option_map mapping_of_row) was ∙ ap Some free
        | false ↦ λ apart. elsewhere q apart
      ] refl ∙ sym (ap (option_map mapping_of_row) (get-insert place_total dropped above_place (unassigned Destroyed) q))

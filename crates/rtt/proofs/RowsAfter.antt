-- Proofs that writing an entry changes only the entry's own row and the rows of the table below it.
use Rattle.std.proofs.Common.{◌≡◌, ℕ, suc, ◌/◌, ◌≤◌, Bool, true, false, cond, List, Option, Some, None, inl, inr, ⊎_elim, refl, sym, ap, ◌∙◌, arith}
use Rattle.std.specs.Prelude.{option_and_then}
use Rattle.granule_addr.specs.Ipa.{covered_count, first_covered, entry_index}
use Rattle.granule_addr.specs.declared.width.Root.{Root}
use Rattle.rtt.specs.declared.granule.Granule.{Granule}
use Rattle.realm_model.specs.Rows.{Row, put_row, table_of}
use Rattle.realm_model.proofs.Rows.{is_place as is_at}
use Rattle.rtt.proofs.FiniteRowsLaws.{place_tells}
use Rattle.rtt.specs.Tables.{Entries, entry_at, is_place, row_in, rows_in}
use Rattle.rtt.specs.Realm.{HasGranules}
use Rattle.rtt.proofs.PlaceLaws.{place_facts, inside_place, first_covers, first_is_place, place_is_first, is_under, under_cases}
use Rattle.rtt.proofs.RowsIn.{get-rows_in, rows_in-from, row_in-place, row_in-none}
use Rattle.rtt.proofs.RowRuns.{get-insert_row}
use Rattle.rtt.proofs.Writes.{Writes, entry_at-written}

-- a place is that of an entry exactly if it is of the entry's level and under the entry
own_place : (level ipa l i : ℕ) → first_covered l i ≡ i → is_at (l, i) (level, first_covered level ipa) ≡ is_under level level ipa l i
own_place level ipa l i first =
    elim (place_tells (l, i) (level, first_covered level ipa)) [
      | inl t ↦
          let same : l ≡ level = ap (λ (q : ℕ × ℕ). q.0) t.1 in
          let cov : i / covered_count level ≡ ipa / covered_count level = ap (λ (q : ℕ × ℕ). q.1 / covered_count level) t.1 ∙ first_covers level ipa in
          t.0 ∙ sym (⊎_elim (λ u. u.0) (λ u. absurd (u.1 same cov)) (under_cases level level ipa l i))
      | inr t ↦
          t.0 ∙ sym (⊎_elim
          (λ u.
          let here : first_covered level i ≡ i = ap (λ (k : ℕ). first_covered k i) (sym u.1) ∙ first in
          let first_is : i ≡ first_covered level ipa = place_is_first level ipa i here u.2 in
          absurd (t.1 (λ j. (u.1 j, first_is j))))
          (λ u. u.0) (under_cases level level ipa l i))
    ]

module _ (entries new : Entries) (granules : List Granule) (rd : ℕ) (root : Root) (level ipa table : ℕ) (entry : Row)
    (own : HasGranules entries granules rd root) (w : Writes entries new root level ipa table entry) where
  -- After the write, the written entry is at its own place, the rows under it are those of the table below it, and all
  -- others are as they were.
  pub row_in-written : (l i : ℕ) → row_in new root l i ≡ cond (is_at (l, i) (level, first_covered level ipa)) (Some entry)
      (cond (is_under (suc level) level ipa l i) (cond (is_place root.width l i) (option_and_then (λ t. Some (new t (entry_index l i))) (table_of entry)) None) (row_in entries root l i))
  row_in-written l i =
      let at_test = is_at (l, i) (level, first_covered level ipa) in
      let under_test = is_under (suc level) level ipa l i in
      let below = option_and_then (λ t. Some (new t (entry_index l i))) (table_of entry) in
      elim (is_place root.width l i) as (λ b. is_place root.width l i ≡ b → row_in new root l i ≡ cond at_test (Some entry) (cond under_test (cond b below None) (row_in entries root l i))) [
        | true ↦ λ place.
            let facts = place_facts root.width l i place in
            row_in-place new root l i place
            ∙ entry_at-written entries new granules rd root level ipa table entry own w l i (inside_place root.width l i place)
            ∙ ap (λ b. cond b (Some entry) (cond under_test below (entry_at entries root l i))) (sym (own_place level ipa l i facts.first))
            ∙ ap (λ r. cond at_test (Some entry) (cond under_test below r)) (sym (row_in-place entries root l i place))
        | false ↦ λ place.
            let off : at_test ≡ false = ⊎_elim
            (λ t. let clash : false ≡ true = sym place ∙ ap (λ (q : ℕ × ℕ). is_place root.width q.0 q.1) t.1 ∙ first_is_place root.width level ipa w.inside in cc)
            (λ t. t.0) (place_tells (l, i) (level, first_covered level ipa)) in
            row_in-none new root l i place
            ∙ sym (ap (λ b. cond b (Some entry) (cond under_test None (row_in entries root l i))) off
            ∙ ap (λ r. cond under_test None r) (row_in-none entries root l i place) ∙ same_both under_test None)
      ] refl
    where
      same_both : (b : Bool) (x : Option Row) → cond b x x ≡ x
      same_both true x = refl
      same_both false x = refl

  -- if the entry is of level 3, the rows afterwards are the rows before with the entry put at its place
  pub rows_in-last : level ≡ 3 → rows_in new root ≡ put_row (rows_in entries root) level ipa entry
  rows_in-last last =
      rows_in-from new root _ (λ l i.
      row_in-written l i
      ∙ ap (cond (is_at (l, i) (level, first_covered level ipa)) (Some entry)) (beside l i)
      ∙ sym (get-insert_row (rows_in entries root) (level, first_covered level ipa) (l, i) entry
      ∙ ap (cond (is_at (l, i) (level, first_covered level ipa)) (Some entry)) (get-rows_in entries root l i)))
    where
      beside : (l i : ℕ) → cond (is_under (suc level) level ipa l i) (cond (is_place root.width l i) (option_and_then (λ t. Some (new t (entry_index l i))) (table_of entry)) None)
          (row_in entries root l i)
          ≡ row_in entries root l i
      beside l i =
          let below = option_and_then (λ t. Some (new t (entry_index l i))) (table_of entry) in
          elim (under_cases (suc level) level ipa l i) [
            | inl u ↦
                let none : is_place root.width l i ≡ false = elim (is_place root.width l i) as (λ b. is_place root.width l i ≡ b → b ≡ false) [
                  | true ↦ λ place. let most : l ≤ 3 = (place_facts root.width l i place).most in let deep = u.1 in absurd (omega arith)
                  | false ↦ λ place. refl
                ] refl in
                ap (λ c. cond c (cond (is_place root.width l i) below None) (row_in entries root l i)) u.0
                ∙ ap (λ b. cond b below None) none ∙ sym (row_in-none entries root l i none)
            | inr u ↦ ap (λ c. cond c (cond (is_place root.width l i) below None) (row_in entries root l i)) u.0
          ]

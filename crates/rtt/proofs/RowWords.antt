-- A proof that each word of a realm's tables encodes its row.
use Rattle.std.proofs.Common.{◌≡◌, ℕ, zero, suc, ◌-◌, Bool, true, false, cond, List, Option, Some, None, refl, sym, ap, subst, ◌∙◌, arith}
use Rattle.std.specs.Prelude.{◌==◌, option_and_then}
use Rattle.std.proofs.lemmas.Bool.{ne_eqb}
use Rattle.std.proofs.lemmas.Option.{same_Some}
use Rattle.granule_addr.specs.Ipa.{first_covered, entry_index}
use Rattle.granule_addr.specs.Root.{start_table}
use Rattle.granule_addr.specs.declared.width.Root.{Root}
use Rattle.rtt.specs.declared.granule.Granule.{Granule}
use Rattle.page_arena.specs.Word.{word_at}
use Rattle.realm_model.specs.Rows.{Row, row_at, table_of}
use Rattle.rtt.specs.Word.{entry_word, IsEntry}
use Rattle.rtt.specs.Tables.{Entries, entries_of, table_at, is_place, rows}
use Rattle.rtt.specs.Realm.{IsInside, HasTables}
use Rattle.rtt.specs.RowWords.{table_by, AreRowWords}
use Rattle.rtt.proofs.PlaceLaws.{index_below}
use Rattle.rtt.proofs.TableAt.{table_at-root, table_at-next}
use Rattle.rtt.proofs.RowsIn.{row_at-rows_in, get-rows_in, row_in-place, row_in-none}
use Rattle.rtt.proofs.Written.{IsEntry-entries_of}

-- if an optional table has an entry at an index, the table is there and has that entry
in_some : (entries : Entries) (index : ℕ) (o : Option ℕ) (row : Row) → option_and_then (λ t. Some (entries t index)) o ≡ Some row → (t : ℕ) × (o ≡ Some t) × (entries t index ≡ row)
in_some entries index None row e = cc
in_some entries index (Some t) row e = (t, refl, same_Some _ _ e)

module _ (pages : List (List ℕ)) (root : Root) where
  -- a row that covers an IPA granule is the entry for it in a table of the row's level
  found : (level ipa : ℕ) (row : Row) → IsInside root.width level ipa → row_at (rows pages root) level ipa ≡ Some row
      → (t : ℕ) × (table_at (entries_of pages) root level ipa ≡ Some t) × (entries_of pages t (entry_index level ipa) ≡ row)
  unfolding rows
  found level ipa row inside at =
      in_some (entries_of pages) (entry_index level ipa) (table_at (entries_of pages) root level ipa) row (sym (row_at-rows_in (entries_of pages) root level ipa inside) ∙ at)

  -- if the rows lead to a table that serves an IPA granule, the entries lead to the same table
  table_found : (level ipa table : ℕ) → IsInside root.width level ipa → table_by (rows pages root) root level ipa ≡ Some table → table_at (entries_of pages) root level ipa ≡ Some table
  table_found zero ipa table inside at = let low = inside.least in absurd (omega arith)
  table_found (suc zero) ipa table inside at = table_at-root (entries_of pages) root ipa ∙ at
  table_found (suc (suc level)) ipa table inside at =
      let high = inside.most in
      let above : IsInside root.width (suc level) ipa = record { least = omega arith; most = omega arith; below = inside.below } in
      let no_root : (suc (suc level) == 1) ≡ false = ne_eqb (suc (suc level)) 1 (λ e. omega arith) in
      let minus : suc (suc level) - 1 ≡ suc level = omega arith in
      let by_row : table_by (rows pages root) root (suc (suc level)) ipa ≡ option_and_then table_of (row_at (rows pages root) (suc level) ipa) =
      (λ i. cond (no_root i) (Some (start_table root ipa)) (option_and_then table_of (row_at (rows pages root) (minus i) ipa))) in
      elim (row_at (rows pages root) (suc level) ipa) as (λ o. row_at (rows pages root) (suc level) ipa ≡ o → option_and_then table_of o ≡ Some table
      → table_at (entries_of pages) root (suc (suc level)) ipa ≡ Some table) [
        | None ↦ λ _ e. cc
        | Some row ↦ λ there e.
            let its = found (suc level) ipa row above there in
            table_at-next (entries_of pages) root (suc level) ipa its.0 (omega arith) its.1 ∙ ap table_of its.2 ∙ e
      ] refl (sym by_row ∙ at)

  pub rows_said : (level ipa : ℕ) (row : Row) → row_at (rows pages root) level ipa ≡ Some row → IsEntry row
  unfolding rows
  rows_said level ipa row at =
      let first = first_covered level ipa in
      let placed : (b : Bool) → is_place root.width level first ≡ b → IsEntry row = λ b. elim b as (λ b. is_place root.width level first ≡ b → IsEntry row) [
        | true ↦ λ place.
            let its = in_some (entries_of pages) (entry_index level first) (table_at (entries_of pages) root level first) row
            (sym (row_in-place (entries_of pages) root level first place) ∙ sym (get-rows_in (entries_of pages) root level first) ∙ at) in
            subst IsEntry its.2 (IsEntry-entries_of pages its.0 (entry_index level first))
        | false ↦ λ place. let clash : None ≡ Some row = sym (row_in-none (entries_of pages) root level first place) ∙ sym (get-rows_in (entries_of pages) root level first) ∙ at in cc
      ] in
      placed (is_place root.width level first) refl

  pub row_words : (granules : List Granule) (rd : ℕ) → HasTables pages granules rd root → AreRowWords pages root
  row_words granules rd tables level ipa table row inside at there =
      let its = found level ipa row inside there in
      let same : table ≡ its.0 = same_Some _ _ (sym (table_found level ipa table inside at) ∙ its.1) in
      ap (λ (t : ℕ). word_at pages t (entry_index level ipa)) same
      ∙ tables.words level ipa its.0 (entry_index level ipa) inside its.1 (index_below level ipa)
      ∙ ap entry_word its.2

-- The proof that a TABLE or an ASSIGNED row of a realm leads to a granule of the same realm.
use Rattle.std.proofs.Common.{◌≡◌, ℕ, ◌<◌, true, false, cond, List, Option, Some, None, refl, sym, ap, ◌∙◌}
use Rattle.std.specs.Prelude.{option_and_then}
use Rattle.granule_addr.specs.Ipa.{entry_index}
use Rattle.granule_addr.specs.declared.width.Root.{Root}
use Rattle.rtt.specs.Granules.{IsIn}
use Rattle.rtt.specs.declared.granule.Granule.{Granule}
use Rattle.realm_model.specs.declared.states.GranuleState.TheVariants.{Data as InData, Rtt as InRtt}
use Rattle.realm_model.specs.declared.states.EntryState.{EntryState}
use Rattle.realm_model.specs.declared.states.EntryState.TheVariants.{Unassigned, Assigned, Table}
use Rattle.realm_model.specs.declared.states.Ripas.{Ripas}
use Rattle.realm_model.specs.Rows.{Row, row_at, is_assigned, is_table}
use Rattle.rtt.specs.Word.{IsEncodable}
use Rattle.rtt.specs.Tables.{Entries, entries_of, table_at, rows}
use Rattle.rtt.specs.Realm.{IsInside, HasTables}
use Rattle.rtt.proofs.EntryKinds.{table_of-table}
use Rattle.rtt.proofs.RowWords.{rows_said}
use Rattle.rtt.proofs.RowsIn.{row_at-rows_in}
use Rattle.rtt.proofs.Walks.{child_in, page_in}

-- ---- the granule of a row

table_said : (state : EntryState) (ripas : Ripas) (granule : Option ℕ) → elim state [ Unassigned ↦ false | Assigned ↦ false | Table ↦ true ] ≡ true → IsEncodable state ripas granule
    → (g : ℕ) × (granule ≡ Some g)
table_said Unassigned ripas granule h is = cc
table_said Assigned ripas granule h is = cc
table_said Table ripas None h is = absurd is
table_said Table ripas (Some g) h is = (g, refl)

page_said : (state : EntryState) (ripas : Ripas) (granule : Option ℕ) → elim state [ Unassigned ↦ false | Assigned ↦ true | Table ↦ false ] ≡ true → IsEncodable state ripas granule
    → (g : ℕ) × (granule ≡ Some g)
page_said Unassigned ripas granule h is = cc
page_said Assigned ripas None h is = absurd is
page_said Assigned ripas (Some g) h is = (g, refl)
page_said Table ripas granule h is = cc

-- if a lookup through an optional table gives a row, there is a table, and the row is its entry at the index
entry_in : (entries : Entries) (index : ℕ) (o : Option ℕ) (row : Row) → option_and_then (λ table. Some (entries table index)) o ≡ Some row
    → (table : ℕ) × (o ≡ Some table) × (row ≡ entries table index)
entry_in entries index None row e = let differ : None ≡ Some row = e in cc
entry_in entries index (Some table) row e = (table, refl, ap (λ o. elim o [ Some r ↦ r | None ↦ row ]) (sym e))

module _ (pages : List (List ℕ)) (granules : List Granule) (rd : ℕ) (root : Root) (tables : HasTables pages granules rd root) (level ipa : ℕ) (inside : IsInside root.width level ipa)
    (row : Row) (at : row_at (rows pages root) level ipa ≡ Some row) where
  entry_there : (table : ℕ) × (table_at (entries_of pages) root level ipa ≡ Some table) × (row ≡ entries_of pages table (entry_index level ipa))
  unfolding rows
  entry_there =
      entry_in (entries_of pages) (entry_index level ipa) (table_at (entries_of pages) root level ipa) row
      (sym (row_at-rows_in (entries_of pages) root level ipa inside) ∙ at)

  -- a TABLE row of a level below 3 leads to one of the realm's tables
  pub table_led : level < 3 → is_table row ≡ true → (table : ℕ) × (row.granule ≡ Some table) × IsIn granules table InRtt (Some rd)
  table_led high is =
      let there = entry_there in
      let said = table_said row.state row.ripas row.granule is (rows_said pages root level ipa row at) in
      (said.0, said.1, child_in pages granules rd root level ipa there.0 said.0 row tables inside high there.1 there.2 (table_of-table row is ∙ said.1))

  -- an ASSIGNED row leads to one of the realm's pages of data
  pub page_led : is_assigned row ≡ true → (page : ℕ) × (row.granule ≡ Some page) × IsIn granules page InData (Some rd)
  page_led is =
      let there = entry_there in
      let said = page_said row.state row.ripas row.granule is (rows_said pages root level ipa row at) in
      (said.0, said.1, page_in pages granules rd root level ipa there.0 said.0 row tables inside there.1 there.2 (ap (λ b. cond b row.granule None) is ∙ said.1))

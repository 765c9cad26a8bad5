-- Proofs that destroying a table whose entries are all UNASSIGNED removes its rows and its granule from the realm.
use Rattle.std.proofs.Common.{◌≡◌, ◌≢◌, ℕ, suc, ◌+◌, ◌*◌, ◌/◌, ◌<◌, Bool, true, false, cond, not, List, Option, Some, None, refl, sym, ap, ◌∙◌}
use Rattle.std.specs.FinMap.{get}
use Rattle.std.proofs.lemmas.Option.{same_Some}
use Rattle.granule_addr.specs.Ipa.{covered_count, first_covered, entry_index, served_count}
use Rattle.granule_addr.specs.Root.{served_space}
use Rattle.granule_addr.specs.declared.width.Root.{Root}
use Rattle.rtt.specs.Granules.{IsIn}
use Rattle.rtt.specs.declared.granule.Granule.{Granule}
use Rattle.realm_model.specs.declared.states.GranuleState.{GranuleState}
use Rattle.realm_model.specs.declared.states.GranuleState.TheVariants.{Data as InData, Rtt as InRtt}
use Rattle.realm_model.specs.declared.states.Ripas.TheVariants.{Destroyed}
use Rattle.realm_model.specs.Rows.{Row, put_row, drop_rows, unassigned, is_unassigned, without_table, is_table_place, table_of}
use Rattle.realm_model.proofs.Rows.{is_place as is_at, get-drop_rows}
use Rattle.rtt.specs.Tables.{Entries, table_at, is_place, row_in, rows_in}
use Rattle.rtt.specs.Realm.{IsInside, HasGranules}
use Rattle.rtt.proofs.EntryKinds.{unassigned_kind}
use Rattle.rtt.proofs.PlaceLaws.{served_below, is_under}
use Rattle.rtt.proofs.TableAt.{table_at-next}
use Rattle.rtt.proofs.RowsIn.{get-rows_in, rows_in-from}
use Rattle.rtt.proofs.RowRuns.{get-insert_row}
use Rattle.rtt.proofs.Writes.{Writes, each_written}
use Rattle.rtt.proofs.RowsAfter.{row_in-written}
use Rattle.rtt.proofs.Owned.{Moves, apart_states, HasGranules-written}
use Rattle.rtt.proofs.BelowRows as below_rows

-- removing the rows under an entry is the same as keeping only the rows that are not under the entry
cut : (under place : Bool) (o : Option Row) → cond under (cond place None None) o ≡ cond (not under) o None
cut true true o = refl
cut true false o = refl
cut false place o = refl

module _ (entries new : Entries) (granules : List Granule) (rd : ℕ) (root : Root) (level above ipa table granule : ℕ)
    (own : HasGranules entries granules rd root)
    (next : above + 1 ≡ level)
    (place : is_table_place ipa level ≡ true)
    (below : ipa < served_space root.width)
    (at : table_at entries root above ipa ≡ Some table)
    (was : table_of (entries table (entry_index above ipa)) ≡ Some granule)
    (unused : (index : ℕ) → index < 512 → is_unassigned (entries granule index) ≡ true)
    (wrote : new table (entry_index above ipa) ≡ unassigned Destroyed)
    (kept : (other index : ℕ) → IsIn granules other InRtt (Some rd) → other ≢ granule → index < 512 → ((other ≡ table) × (index ≡ entry_index above ipa) → ⊥)
    → new other index ≡ entries other index) where
  -- before it is destroyed, the table serves the IPA granule at the given level
  pub its_place : table_at entries root level ipa ≡ Some granule
  its_place =
      ap (λ (k : ℕ). table_at entries root k ipa) (sym (below_rows.suc_above level above ipa next place))
      ∙ table_at-next entries root above ipa table (below_rows.low level above ipa next place) at ∙ was

  -- any other table is in another granule
  no_other : (l i other : ℕ) → IsInside root.width l i → table_at entries root l i ≡ Some other → (l ≡ suc above → i / covered_count above ≢ ipa / covered_count above) → other ≢ granule
  no_other l i other inside is out same =
      let both = own.tables_once l i level ipa granule inside (below_rows.level_inside level above ipa next place root.width below) (is ∙ ap (λ (k : ℕ). Some k) same) its_place in
      let suc_above = below_rows.suc_above level above ipa next place in
      let served : served_count level ≡ covered_count above = ap served_count (sym suc_above)
      ∙ served_below above (below_rows.low level above ipa next place) (below_rows.high level above ipa next place) in
      out (both.0 ∙ sym suc_above)
      (ap (λ (k : ℕ). i / k) (sym served) ∙ ap (λ (k : ℕ). i / served_count k) (sym both.0) ∙ both.1 ∙ ap (λ (k : ℕ). ipa / k) served)

  writes : Writes entries new root above ipa table (unassigned Destroyed)
  writes = record {
    inside = below_rows.above_inside level above ipa next place root.width below;
    at = at;
    wrote = wrote;
    old_below = λ child index _ is few. let same : granule ≡ child = same_Some granule child (sym was ∙ is) in
        unassigned_kind (entries child index) (ap (λ (k : ℕ). is_unassigned (entries k index)) (sym same) ∙ unused index few);
    new_below = λ child index _ is _. let clash : None ≡ Some child = is in cc;
    kept = λ l i other index inside is few out apart. kept other index (own.tables l i other inside is) (no_other l i other inside is out) few apart;
  }

  -- The rows afterwards are the rows before without those of the table, and with a DESTROYED row in place of its TABLE
  -- row.
  pub destroyed_rows : rows_in new root ≡ without_table (rows_in entries root) level ipa
  unfolding without_table
  destroyed_rows =
      let rows = rows_in entries root in
      let dropped = drop_rows rows level ipa (512 * covered_count level) in
      rows_in-from new root (put_row dropped above ipa (unassigned Destroyed)) (λ l i.
      let at_test = is_at (l, i) (above, first_covered above ipa) in
      let under_test = is_under (suc above) above ipa l i in
      let now : get dropped (l, i) ≡ cond (not under_test) (row_in entries root l i) None =
      get-drop_rows rows level ipa (512 * covered_count level) (l, i)
      ∙ ap (λ b. cond (not b) (get rows (l, i)) None) (below_rows.among_under level above ipa next place l i)
      ∙ ap (λ r. cond (not under_test) r None) (get-rows_in entries root l i) in
      row_in-written entries new granules rd root above ipa table (unassigned Destroyed) own writes l i
      ∙ ap (cond at_test (Some (unassigned Destroyed))) (cut under_test (is_place root.width l i) (row_in entries root l i) ∙ sym now)
      ∙ sym (get-insert_row dropped (above, first_covered above ipa) (l, i) (unassigned Destroyed)))
      ∙ ap (λ (k : ℕ). put_row dropped k ipa (unassigned Destroyed)) (sym (below_rows.above_is level above ipa next place))

  -- The realm still owns the granules of its other tables and of its pages, whatever state and realm the destroyed
  -- table's granule gets.
  pub destroyed_granules : (new_granules : List Granule) (state : GranuleState) (realm : Option ℕ) → Moves granules new_granules granule state realm → HasGranules new new_granules rd root
  destroyed_granules new_granules state realm moves =
      let was_in : IsIn granules granule InRtt (Some rd) = own.tables level ipa granule (below_rows.level_inside level above ipa next place root.width below) its_place in
      HasGranules-written entries new granules rd root above ipa table (unassigned Destroyed) own writes new_granules (record {
        tables_stay = λ l i t inside is out. moves.others t InRtt (Some rd) (no_other l i t inside is out) (own.tables l i t inside is);
        table_new = λ t _ is. let clash : None ≡ Some t = is in cc;
        table_once = λ l i t _ is _ _ _. let clash : None ≡ Some t = is in cc;
        data_stays = λ l i page inside is _. let there = own.«data» l i page inside is in
            moves.others page InData (Some rd) (apart_states granules page granule InData InRtt (Some rd) (Some rd) there was_in (λ e. cc)) there;
        data_new = λ page is. let clash : None ≡ Some page = is in cc;
        data_once = λ l i page is _ _ _. let clash : None ≡ Some page = is in cc;
      })

  -- each entry afterwards has a property that the written entry and the kept entries have
  pub destroyed_each : (P : ℕ → ℕ → Type 0) → P table (entry_index above ipa)
      → ((l i t index : ℕ) → IsInside root.width l i → table_at entries root l i ≡ Some t → index < 512 → t ≢ granule → ((t ≡ table) × (index ≡ entry_index above ipa) → ⊥) → P t index)
      → (l i t index : ℕ) → IsInside root.width l i → table_at new root l i ≡ Some t → index < 512 → P t index
  destroyed_each P here others = each_written entries new granules rd root above ipa table (unassigned Destroyed) own writes P here
      (λ child index _ is _. let clash : None ≡ Some child = is in cc)
      (λ l i t index inside is few out apart. others l i t index inside is few (no_other l i t inside is out) apart)

-- Proofs that a realm's rows and tables stay the same if its RTT granules stay its RTT granules with the same bytes,
-- and its DATA granules stay its DATA granules.
use Rattle.std.specs.Prelude.{◌≡◌, ℕ, zero, suc, ◌<◌, ◌≤◌, true, false, cond, List, Option, Some, None, option_and_then}
use Rattle.std.proofs.Common.{refl, sym, ap, subst, ◌∙◌, arith}
use Rattle.granule_addr.specs.Ipa.{entry_index}
use Rattle.granule_addr.specs.Root.{served_space}
use Rattle.granule_addr.specs.declared.width.Root.{Root}
use Rattle.rtt.specs.Granules.{IsIn}
use Rattle.rtt.specs.declared.granule.Granule.{Granule}
use Rattle.page_arena.specs.Word.{word_of_page}
use Rattle.realm_model.specs.Rows.{table_of, data_of}
use Rattle.realm_model.specs.declared.states.GranuleState.TheVariants.{Data as InData, Rtt as InRtt}
use Rattle.realm_model.specs.Sound.{mapping_at, IsSoundRows}
use Rattle.rtt.specs.FiniteRows.{rows_by}
use Rattle.rtt.specs.Word.{entry_of, entry_word}
use Rattle.rtt.specs.Tables.{Entries, entries_of, table_at, entry_at, data_at, is_place, row_in, rows_in, rows}
use Rattle.rtt.specs.Realm.{IsInside, HasGranules, HasTables, LeavesAlone}
use Rattle.rtt.proofs.PlaceLaws.{index_below, inside_place}

-- `option_and_then` has the same result for two functions if they agree on the value that the option has
option_and_then-same : {A : Type 0} (mapping_at new_look : ℕ → Option A) (o : Option ℕ) → ((table : ℕ) → o ≡ Some table → new_look table ≡ mapping_at table) → option_and_then new_look o ≡ option_and_then mapping_at o
option_and_then-same mapping_at new_look None same = refl
option_and_then-same mapping_at new_look (Some table) same = same table refl

-- new entries that lead to the same tables as the old ones
module _ (entries new : Entries) (root : Root)
    (same : (level ipa table index : ℕ) → IsInside root.width level ipa → table_at entries root level ipa ≡ Some table → index < 512
    → table_of (new table index) ≡ table_of (entries table index)) where
  pub same_table_at : (level ipa : ℕ) → IsInside root.width level ipa → table_at new root level ipa ≡ table_at entries root level ipa
  unfolding table_at
  same_table_at level ipa inside = down level inside.most
    where
      down : (l : ℕ) → l ≤ 3 → table_at new root l ipa ≡ table_at entries root l ipa
      down zero high = refl
      down (suc zero) high = refl
      down (suc (suc l)) high =
          let index = entry_index (suc l) ipa in
          ap (option_and_then (λ t. table_of (new t index))) (down (suc l) (omega arith))
          ∙ option_and_then-same (λ t. table_of (entries t index)) (λ t. table_of (new t index)) (table_at entries root (suc l) ipa)
          (λ t at. same (suc l) ipa t index (record { least = omega arith; most = omega arith; below = inside.below }) at (index_below (suc l) ipa))

  -- new entries that lead to the same tables and the same pages as the old ones
  module _ (same_data : (level ipa table index : ℕ) → IsInside root.width level ipa → table_at entries root level ipa ≡ Some table → index < 512
      → data_of (new table index) ≡ data_of (entries table index)) where
    pub same_data_at : (level ipa : ℕ) → IsInside root.width level ipa → data_at new root level ipa ≡ data_at entries root level ipa
    same_data_at level ipa inside =
        let index = entry_index level ipa in
        ap (option_and_then (λ t. data_of (new t index))) (same_table_at level ipa inside)
        ∙ option_and_then-same (λ t. data_of (entries t index)) (λ t. data_of (new t index)) (table_at entries root level ipa)
        (λ t at. same_data level ipa t index inside at (index_below level ipa))

    -- The realm still owns the granules of its tables and pages, if its RTT granules stay its RTT granules, and its
    -- DATA granules stay its DATA granules.
    pub HasGranules-same : (granules new_granules : List Granule) (rd : ℕ)
        → ((granule : ℕ) → IsIn granules granule InRtt (Some rd) → IsIn new_granules granule InRtt (Some rd))
        → ((granule : ℕ) → IsIn granules granule InData (Some rd) → IsIn new_granules granule InData (Some rd))
        → HasGranules entries granules rd root → HasGranules new new_granules rd root
    HasGranules-same granules new_granules rd tables_stay data_stays own = record {
      tables = λ l i t inside is. tables_stay t (own.tables l i t inside (sym (same_table_at l i inside) ∙ is));
      tables_once = λ l i m j t inside inside' is is'. own.tables_once l i m j t inside inside' (sym (same_table_at l i inside) ∙ is) (sym (same_table_at m j inside') ∙ is');
      «data» = λ l i page inside is. data_stays page (own.«data» l i page inside (sym (same_data_at l i inside) ∙ is));
      data_once = λ l i m j page inside inside' is is'. own.data_once l i m j page inside inside' (sym (same_data_at l i inside) ∙ is) (sym (same_data_at m j inside') ∙ is');
    }

-- new entries that are equal to the old ones
module _ (entries new : Entries) (root : Root)
    (same : (level ipa table index : ℕ) → IsInside root.width level ipa → table_at entries root level ipa ≡ Some table → index < 512 → new table index ≡ entries table index) where
  pub same_entry_at : (level ipa : ℕ) → IsInside root.width level ipa → entry_at new root level ipa ≡ entry_at entries root level ipa
  same_entry_at level ipa inside =
      let index = entry_index level ipa in
      ap (option_and_then (λ t. Some (new t index))) (same_table_at entries new root (λ l i t index there at few. ap table_of (same l i t index there at few)) level ipa inside)
      ∙ option_and_then-same (λ t. Some (entries t index)) (λ t. Some (new t index)) (table_at entries root level ipa)
      (λ t at. ap (λ x. Some x) (same level ipa t index inside at (index_below level ipa)))

  same_row_in : (level ipa : ℕ) → row_in new root level ipa ≡ row_in entries root level ipa
  unfolding row_in
  same_row_in level ipa = elim (is_place root.width level ipa) as (λ b. is_place root.width level ipa ≡ b → cond b (entry_at new root level ipa) None ≡ cond b (entry_at entries root level ipa) None) [
    | true ↦ λ place. same_entry_at level ipa (inside_place root.width level ipa place)
    | false ↦ λ place. refl
  ] refl

  pub same_rows_in : rows_in new root ≡ rows_in entries root
  unfolding rows_in
  same_rows_in = ap (rows_by (served_space root.width)) (λ i level ipa. same_row_in level ipa i)

-- ---- the pages of a realm's own granules

module _ (pages : List (List ℕ)) (granules : List Granule) (new_pages : List (List ℕ)) (new_granules : List Granule) (rd : ℕ) (root : Root)
    (there : HasTables pages granules rd root) (alone : LeavesAlone rd pages granules new_pages new_granules) where
  same_entry : (level ipa table index : ℕ) → IsInside root.width level ipa → table_at (entries_of pages) root level ipa ≡ Some table → index < 512
      → entries_of new_pages table index ≡ entries_of pages table index
  unfolding entries_of
  same_entry level ipa table index inside at few = ap (λ page. entry_of (word_of_page page index)) (alone.page table (there.own.tables level ipa table inside at))

  -- The realm's rows stay the same.
  pub rows-alone : rows new_pages root ≡ rows pages root
  unfolding rows
  rows-alone = same_rows_in (entries_of pages) (entries_of new_pages) root same_entry

  -- The realm still has its tables.
  pub HasTables-alone : HasTables new_pages new_granules rd root
  HasTables-alone = record {
    own = HasGranules-same (entries_of pages) (entries_of new_pages) root
        (λ level ipa table index inside at few. ap table_of (same_entry level ipa table index inside at few))
        (λ level ipa table index inside at few. ap data_of (same_entry level ipa table index inside at few))
        granules new_granules rd alone.table alone.«data» there.own;
    words = λ level ipa table index inside at few.
        let was = sym (same_table_at (entries_of pages) (entries_of new_pages) root
        (λ level ipa table index inside at few. ap table_of (same_entry level ipa table index inside at few)) level ipa inside) ∙ at in
        ap (λ page. word_of_page page index) (alone.page table (there.own.tables level ipa table inside was))
        ∙ there.words level ipa table index inside was few
        ∙ ap entry_word (sym (same_entry level ipa table index inside was few));
    sound = subst (λ r. IsSoundRows root.width (mapping_at r)) (sym rows-alone) there.sound;
  }

-- A proof that setting the RIPAS of several IPA granules of one table to RAM changes only the rows of these IPA
-- granules, and leaves other realms unchanged.
use Rattle.std.proofs.Common.{◌≡◌, ◌≢◌, ℕ, ◌+◌, ◌-◌, ◌/◌, ◌%◌, ◌<◌, ◌≤◌, Bool, true, false, List, ◌⊎◌, Some, None, refl, sym, ap, subst, ◌∙◌, arith}
use Rattle.std.specs.Prelude.{IsTrue, ◌↔◌}
use Rattle.std.proofs.lemmas.Bool.{and_parts, leb-true, eqb-true}
use Rattle.granule_addr.specs.Ipa.{entry_index}
use Rattle.granule_addr.specs.Root.{served_space}
use Rattle.granule_addr.specs.declared.width.Root.{Root}
use Rattle.rtt.specs.Granules.{IsIn}
use Rattle.rtt.specs.declared.granule.Granule.{Granule}
use Rattle.page_arena.specs.Page.{page_at}
use Rattle.page_arena.specs.Word.{word_at}
use Rattle.realm_model.specs.declared.states.GranuleState.TheVariants.{Rtt as InRtt}
use Rattle.realm_model.specs.declared.states.EntryState.TheVariants.{Unassigned}
use Rattle.realm_model.specs.declared.states.Ripas.TheVariants.{Ram}
use Rattle.realm_model.specs.Rows.{Row, is_page_run, unassigned, is_unassigned, all_rows, as_ram, with_ram}
use Rattle.realm_model.specs.Sound.{mapping_at, IsSoundRows}
use Rattle.realm_model.proofs.SoundRows.{with_ram_sound}
use Rattle.rtt.specs.Word.{entry_word, IsEncodable, IsEntry}
use Rattle.rtt.specs.Tables.{entries_of, table_at, rows}
use Rattle.rtt.specs.Realm.{IsInside, HasTables, LeavesOthers}
use Rattle.rtt.specs.Calls.{ChangesTablesOnly}
use Rattle.rtt.proofs.EntryKinds.{unassigned_kind, as_ram-unassigned}
use Rattle.rtt.proofs.RamRows.{pages_unassigned, page_unassigned, ram_tables, ram_granules, ram_rows}
use Rattle.rtt.proofs.OtherRealms.{others_kept}
use Rattle.rtt.proofs.Written.{IsEntry-entries_of, same_entry, entry_filled, exact_after, word_unfilled}

-- the entries of a run of pages are all in the table that serves the first page
pub fits_table : (ipa level first count : ℕ) → level ≡ 3 → first ≡ entry_index level ipa → is_page_run ipa count ≡ true → first + count ≤ 512
fits_table ipa level first count last first_is run =
    let start : first ≡ ipa / 1 % 512 = first_is ∙ ap (λ (l : ℕ). entry_index l ipa) last in
    let parts = and_parts _ _ run in
    let some : 1 ≤ count = leb-true 1 count (and_parts _ _ parts.0).0 in
    let one_table : ipa / 512 ≡ (ipa + count - 1) / 512 = eqb-true (ipa / 512) ((ipa + count - 1) / 512) parts.1 in
    omega (arith, start, some, one_table)

-- if `answer` is true exactly when the entries of a run of pages are all UNASSIGNED, then `answer` says whether the
-- rows of the pages are all UNASSIGNED
pub pages_unused : (pages : List (List ℕ)) (root : Root) (level ipa table first count : ℕ) (answer : Bool) → IsInside root.width level ipa → level ≡ 3
    → table_at (entries_of pages) root level ipa ≡ Some table
    → first ≡ entry_index level ipa → first + count ≤ 512
    → (IsTrue answer ↔ ((index : ℕ) → first ≤ index → index < first + count → is_unassigned (entries_of pages table index) ≡ true))
    → all_rows is_unassigned (rows pages root) 3 ipa count ≡ answer
unfolding rows
pages_unused pages root level ipa table first count answer inside last at first_is fits tells = by_cases answer (all_rows is_unassigned (rows pages root) 3 ipa count) refl tells
  where
    start : first ≡ entry_index 3 ipa
    start = first_is ∙ ap (λ (l : ℕ). entry_index l ipa) last

    at_last : table_at (entries_of pages) root 3 ipa ≡ Some table
    at_last = ap (λ (l : ℕ). table_at (entries_of pages) root l ipa) (sym last) ∙ at

    room : entry_index 3 ipa + count ≤ 512
    room = subst (λ (i : ℕ). i + count ≤ 512) start fits

    by_cases : (a all : Bool) → all_rows is_unassigned (rows pages root) 3 ipa count ≡ all
        → (IsTrue a ↔ ((index : ℕ) → first ≤ index → index < first + count → is_unassigned (entries_of pages table index) ≡ true)) → all ≡ a
    by_cases true true e t = refl
    by_cases true false e t =
        let each = pages_unassigned (entries_of pages) root ipa table count inside.below at_last room
        (λ k few. t.0 refl (entry_index 3 ipa + k) (omega (arith, start)) (omega (arith, start))) in
        let clash : false ≡ true = sym e ∙ each in cc
    by_cases false true e t =
        let each = page_unassigned (entries_of pages) root ipa table count inside.below at_last room e in
        let clash : IsTrue false = t.1 (λ index low high.
        ap (λ (i : ℕ). is_unassigned (entries_of pages table i)) (let at_index : index ≡ entry_index 3 ipa + (index - first) = omega (arith, start) in at_index)
        ∙ each (index - first) (omega arith)) in cc
    by_cases false false e t = refl

-- ---- the pages become RAM

-- an UNASSIGNED entry leads to no granule
granule_none : (row : Row) → IsEntry row → row.state ≡ Unassigned → row.granule ≡ None
granule_none row is kind = let decoded : IsEncodable Unassigned row.ripas row.granule = subst (λ h. IsEncodable h row.ripas row.granule) kind is in decoded

pub record RamGiven (pages new_pages : List (List ℕ)) (granules : List Granule) (rd : ℕ) (root : Root) (ipa count : ℕ) : Type 0 where
  pub rows_are : rows new_pages root ≡ with_ram (rows pages root) ipa count
  pub tables : HasTables new_pages granules rd root
  pub others : ChangesTablesOnly root pages new_pages
  pub other_realms : LeavesOthers rd pages granules new_pages granules

module _ (pages new_pages : List (List ℕ)) (granules : List Granule) (rd : ℕ) (root : Root) (ipa table first count : ℕ)
    (tables : HasTables pages granules rd root) (inside : IsInside root.width 3 ipa) (at : table_at (entries_of pages) root 3 ipa ≡ Some table)
    (start : first ≡ entry_index 3 ipa) (fits : entry_index 3 ipa + count ≤ 512)
    (unused : (index : ℕ) → first ≤ index → index < first + count → is_unassigned (entries_of pages table index) ≡ true)
    (written : (index : ℕ) → first ≤ index → index < first + count → word_at new_pages table index ≡ entry_word (unassigned Ram))
    (left : (index : ℕ) → index < 512 → (index < first) ⊎ (first + count ≤ index) → word_at new_pages table index ≡ word_at pages table index)
    (others : (granule : ℕ) → granule ≢ table → page_at new_pages granule ≡ page_at pages granule) where
  below : ipa < served_space root.width
  below = inside.below

  was : (k : ℕ) → k < count → is_unassigned (entries_of pages table (entry_index 3 ipa + k)) ≡ true
  was k few = unused (entry_index 3 ipa + k) (omega (arith, start)) (omega (arith, start))

  wrote : (k : ℕ) → k < count → entries_of new_pages table (entry_index 3 ipa + k) ≡ as_ram (Some (entries_of pages table (entry_index 3 ipa + k)))
  wrote k few =
      let old = entries_of pages table (entry_index 3 ipa + k) in
      let kind : old.state ≡ Unassigned = unassigned_kind old (was k few) in
      entry_filled pages new_pages table first count (unassigned Ram) refl written left others (entry_index 3 ipa + k) (omega (arith, start)) (omega (arith, start))
      ∙ sym (as_ram-unassigned old kind (granule_none old (IsEntry-entries_of pages table (entry_index 3 ipa + k)) kind))

  kept : (granule index : ℕ) → IsIn granules granule InRtt (Some rd) → index < 512 → ((granule ≡ table) × (entry_index 3 ipa ≤ index) × (index < entry_index 3 ipa + count) → ⊥)
      → entries_of new_pages granule index ≡ entries_of pages granule index
  kept granule index _ few apart =
      same_entry pages new_pages granule index
      (word_unfilled pages new_pages table first count (unassigned Ram) refl written left others granule index few
      (λ o. apart (o.0, (let low = o.1 in omega (arith, start)), (let high = o.2 in omega (arith, start)))))

  rows_after : rows new_pages root ≡ with_ram (rows pages root) ipa count
  unfolding rows
  rows_after = ram_rows (entries_of pages) root ipa table count below at fits (entries_of new_pages) granules rd tables.own was wrote kept

  all_unused : all_rows is_unassigned (rows pages root) 3 ipa count ≡ true
  unfolding rows
  all_unused = pages_unassigned (entries_of pages) root ipa table count below at fits was

  table_there : IsIn granules table InRtt (Some rd)
  table_there = tables.own.tables 3 ipa table inside at

  pub ram_at : RamGiven pages new_pages granules rd root ipa count
  unfolding rows
  ram_at = record {
    rows_are = rows_after;
    tables = record {
      own = ram_granules (entries_of pages) root ipa table count below at fits (entries_of new_pages) granules rd tables.own was wrote kept;
      words = λ l i t index inside there few.
          exact_after pages new_pages table first count (unassigned Ram) refl written left others t index few
          (tables.words l i t index inside
          (sym (ram_tables (entries_of pages) root ipa table count below at fits (entries_of new_pages) granules rd tables.own was wrote kept l i inside) ∙ there) few);
      sound = subst (λ r. IsSoundRows root.width (mapping_at r)) (sym rows_after) (with_ram_sound (rows pages root) ipa count tables.sound all_unused);
    };
    others = λ granule no_table. others granule (λ q. no_table (record { level = 3; ipa = ipa; inside = inside; at = at ∙ ap (λ (k : ℕ). Some k) (sym q) }));
    other_realms = others_kept pages new_pages granules rd (λ granule no_rtt. others granule (λ q. no_rtt (subst (λ (k : ℕ). IsIn granules k InRtt (Some rd)) (sym q) table_there)));
  }

pub ram_given : (pages new_pages : List (List ℕ)) (granules : List Granule) (rd : ℕ) (root : Root) (level ipa table first count : ℕ) (row : Row)
    → HasTables pages granules rd root → IsInside root.width level ipa → level ≡ 3 → table_at (entries_of pages) root level ipa ≡ Some table
    → first ≡ entry_index level ipa → first + count ≤ 512 → row ≡ unassigned Ram
    → ((index : ℕ) → first ≤ index → index < first + count → is_unassigned (entries_of pages table index) ≡ true)
    → ((index : ℕ) → first ≤ index → index < first + count → word_at new_pages table index ≡ entry_word row)
    → ((index : ℕ) → index < 512 → (index < first) ⊎ (first + count ≤ index) → word_at new_pages table index ≡ word_at pages table index)
    → ((granule : ℕ) → granule ≢ table → page_at new_pages granule ≡ page_at pages granule)
    → RamGiven pages new_pages granules rd root ipa count
ram_given pages new_pages granules rd root level ipa table first count row tables inside last at first_is fits row_is unused written left others =
    let start : first ≡ entry_index 3 ipa = first_is ∙ ap (λ (l : ℕ). entry_index l ipa) last in
    ram_at pages new_pages granules rd root ipa table first count tables (subst (λ (l : ℕ). IsInside root.width l ipa) last inside)
    (ap (λ (l : ℕ). table_at (entries_of pages) root l ipa) (sym last) ∙ at)
    start (subst (λ (i : ℕ). i + count ≤ 512) start fits) unused (λ index low high. written index low high ∙ ap entry_word row_is) left others

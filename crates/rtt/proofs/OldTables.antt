-- A proof that destroying a table removes its rows from the realm, clears its granule, and leaves other realms
-- unchanged.
use Rattle.std.proofs.Common.{◌≡◌, ◌≢◌, ℕ, ◌+◌, ◌-◌, ◌<◌, ◌≤◌, Bool, true, false, List, [], length, set, Some, None, refl, sym, ap, subst, ◌∙◌, arith}
use Rattle.std.specs.Prelude.{IsTrue, ◌↔◌}
use Rattle.std.proofs.lemmas.List.{length-set, get_or-set_same, get_or-set_other}
use Rattle.std.proofs.lemmas.Option.{same_Some}
use Rattle.granule_addr.specs.Ipa.{entry_index}
use Rattle.granule_addr.specs.declared.width.Root.{Root}
use Rattle.rtt.specs.Granules.{IsIn}
use Rattle.rtt.specs.declared.granule.Granule.{Granule}
use Rattle.granule_addr.specs.Page.{zero_page}
use Rattle.page_arena.specs.Page.{page_at, IsSized}
use Rattle.page_arena.specs.Word.{word_at, with_word}
use Rattle.page_arena.specs.Words.{page_at-with_word_other}
use Rattle.realm_model.specs.declared.states.GranuleState.TheVariants.{Delegated, Rtt as InRtt}
use Rattle.realm_model.specs.declared.states.Ripas.TheVariants.{Destroyed}
use Rattle.realm_model.specs.Rows.{Row, row_at, unassigned, is_unassigned, without_table, is_table_place, is_table_unused, table_of}
use Rattle.realm_model.specs.Sound.{mapping_at, IsSoundRows}
use Rattle.realm_model.proofs.SoundRows.{without_table_sound}
use Rattle.realm_model.proofs.TablePlaces.{table_place}
use Rattle.rtt.specs.Word.{entry_word}
use Rattle.rtt.specs.Tables.{entries_of, table_at, rows}
use Rattle.rtt.specs.Realm.{IsBacked, IsInside, HasTables, LeavesOthers}
use Rattle.rtt.proofs.PlaceLaws.{index_below}
use Rattle.rtt.specs.Calls.{LeadsTo, ChangesTablesOnly}
use Rattle.rtt.proofs.BelowRows.{level_inside, table_unused, unused_entry}
use Rattle.rtt.proofs.EntryKinds.{table_of-leads}
use Rattle.rtt.proofs.Owned.{Moves-set}
use Rattle.rtt.proofs.OtherRealms.{others_left}
use Rattle.rtt.proofs.TableAt.{entry_at-some}
use Rattle.rtt.proofs.RowsIn.{row_at-rows_in}
use Rattle.rtt.proofs.Destroys.{its_place, destroyed_rows, destroyed_granules, destroyed_each}
use Rattle.rtt.proofs.Walks.{table_at-below}
use Rattle.rtt.proofs.Written.{IsExact, same_entry, same_exact, entry_written, exact_written, word_as}

-- if `answer` is true exactly when a table's entries are all UNASSIGNED, then `answer` says whether the table is unused
pub is_unused : (pages : List (List ℕ)) (root : Root) (level wanted ended ipa table granule : ℕ) (entry : Row) (answer : Bool) → wanted + 1 ≡ level → is_table_place ipa level ≡ true
    → IsInside root.width ended ipa → ended ≡ wanted → table_at (entries_of pages) root ended ipa ≡ Some table → entry ≡ entries_of pages table (entry_index ended ipa) → Some granule ≡ table_of entry
    → (IsTrue answer ↔ ((index : ℕ) → 0 ≤ index → index < 512 → is_unassigned (entries_of pages granule index) ≡ true))
    → is_table_unused (rows pages root) level ipa ≡ answer
unfolding rows
is_unused pages root level wanted ended ipa table granule entry answer next place inside ends at is leads tells = by_cases answer (is_table_unused (rows pages root) level ipa) refl tells
  where
    its : table_at (entries_of pages) root level ipa ≡ Some granule
    its = table_at-below (entries_of pages) root ended level ipa table granule entry inside.least (sym next ∙ ap (λ (l : ℕ). l + 1) (sym ends)) at is leads

    by_cases : (a unused : Bool) → is_table_unused (rows pages root) level ipa ≡ unused
        → (IsTrue a ↔ ((index : ℕ) → 0 ≤ index → index < 512 → is_unassigned (entries_of pages granule index) ≡ true)) → unused ≡ a
    by_cases true true e t = refl
    by_cases true false e t =
        let all = table_unused level wanted ipa next place (entries_of pages) root granule inside.below its (λ index few. t.0 refl index (omega arith) few) in
        let clash : false ≡ true = sym e ∙ all in cc
    by_cases false true e t =
        let clash : IsTrue false = t.1 (λ index _ few. unused_entry level wanted ipa next place (entries_of pages) root granule inside.below its e index few) in cc
    by_cases false false e t = refl

pub record Gone (pages new_pages : List (List ℕ)) (granules new_granules : List Granule) (rd : ℕ) (root : Root) (level ipa : ℕ) : Type 0 where
  pub rows_are : rows new_pages root ≡ without_table (rows pages root) level ipa
  pub moved : (table : ℕ) → LeadsTo (rows pages root) (level - 1) ipa table → new_granules ≡ set granules table (record { state = Delegated; realm = None })
  pub cleared : (table : ℕ) → LeadsTo (rows pages root) (level - 1) ipa table → page_at new_pages table ≡ zero_page
  pub tables : HasTables new_pages new_granules rd root
  pub others : ChangesTablesOnly root pages new_pages
  pub other_realms : LeavesOthers rd pages granules new_pages new_granules

module _ (pages mid : List (List ℕ)) (flags : List Bool) (sized : IsSized mid flags) (granules : List Granule) (rd : ℕ) (root : Root) (level above ipa table granule : ℕ) (entry : Row)
    (tables : HasTables pages granules rd root) (next : above + 1 ≡ level) (place : is_table_place ipa level ≡ true)
    (inside : IsInside root.width above ipa) (at : table_at (entries_of pages) root above ipa ≡ Some table) (within : table < length mid) (granule_within : granule < length pages)
    (is : entry ≡ entries_of pages table (entry_index above ipa)) (leads : Some granule ≡ table_of entry)
    (unused : (index : ℕ) → index < 512 → is_unassigned (entries_of pages granule index) ≡ true)
    (mid_is : mid ≡ set pages granule zero_page) where
  abbrev row : Row
  row = unassigned Destroyed

  abbrev after : List (List ℕ)
  after = with_word mid table (entry_index above ipa) (entry_word row)

  abbrev moved_granules : List Granule
  moved_granules = set granules granule (record { state = Delegated; realm = None })

  few : entry_index above ipa < 512
  few = index_below above ipa

  was : table_of (entries_of pages table (entry_index above ipa)) ≡ Some granule
  was = ap table_of (sym is) ∙ sym leads

  wrote : entries_of after table (entry_index above ipa) ≡ row
  wrote = entry_written mid flags sized table (entry_index above ipa) row within few refl

  far_page : (other : ℕ) → other ≢ granule → page_at mid other ≡ page_at pages other
  far_page other ne = ap (λ (p : List (List ℕ)). page_at p other) mid_is ∙ get_or-set_other pages granule other zero_page [] ne

  far_word : (other index : ℕ) → other ≢ granule → index < 512 → ((other ≡ table) × (index ≡ entry_index above ipa) → ⊥) → word_at after other index ≡ word_at pages other index
  far_word other index ne lt out = word_as mid flags sized table (entry_index above ipa) row within few refl pages other index (far_page other ne) lt out

  kept : (other index : ℕ) → IsIn granules other InRtt (Some rd) → other ≢ granule → index < 512 → ((other ≡ table) × (index ≡ entry_index above ipa) → ⊥)
      → entries_of after other index ≡ entries_of pages other index
  kept other index _ ne lt out = same_entry pages after other index (far_word other index ne lt out)

  its : table_at (entries_of pages) root level ipa ≡ Some granule
  its = its_place (entries_of pages) (entries_of after) granules rd root level above ipa table granule tables.own next place inside.below at was unused wrote kept

  deep : IsInside root.width level ipa
  deep = level_inside level above ipa next place root.width inside.below

  -- the table above the destroyed table is in a different granule
  above_apart : table ≢ granule
  above_apart same =
      let both = tables.own.tables_once above ipa level ipa granule inside deep (at ∙ ap (λ (k : ℕ). Some k) same) its in
      let levels = both.0 in
      absurd (omega arith)

  row_above : row_at (rows pages root) above ipa ≡ Some entry
  unfolding rows
  row_above = row_at-rows_in (entries_of pages) root above ipa inside ∙ entry_at-some (entries_of pages) root above ipa table at ∙ ap (λ (r : Row). Some r) (sym is)

  above_is : level - 1 ≡ above
  above_is = omega arith

  row_there : row_at (rows pages root) (level - 1) ipa ≡ Some entry
  row_there = ap (λ (l : ℕ). row_at (rows pages root) l ipa) above_is ∙ row_above

  its_granule : entry.granule ≡ Some granule
  its_granule = (table_of-leads entry granule (sym leads)).1

  granule_is : (other : ℕ) → LeadsTo (rows pages root) (level - 1) ipa other → granule ≡ other
  granule_is other there = same_Some _ _ (sym its_granule ∙ ap (λ (r : Row). r.granule) (same_Some _ _ (sym row_there ∙ there.1)) ∙ there.2)

  rows_after : rows after root ≡ without_table (rows pages root) level ipa
  unfolding rows
  rows_after = destroyed_rows (entries_of pages) (entries_of after) granules rd root level above ipa table granule tables.own next place inside.below at was unused wrote kept

  all_unused : is_table_unused (rows pages root) level ipa ≡ true
  unfolding rows
  all_unused = table_unused level above ipa next place (entries_of pages) root granule inside.below its unused

  beside : (other : ℕ) → other ≢ table → other ≢ granule → page_at after other ≡ page_at pages other
  beside other far ne = page_at-with_word_other mid table (entry_index above ipa) (entry_word row) other far ∙ far_page other ne

  lies : granule < length granules
  lies = (tables.own.tables level ipa granule deep its).inside

  in_rtt : IsIn granules granule InRtt (Some rd)
  in_rtt = tables.own.tables level ipa granule deep its

  pub gone_at : Gone pages after granules moved_granules rd root level ipa
  unfolding rows
  gone_at = record {
    rows_are = rows_after;
    moved = λ other there. ap (λ (k : ℕ). set granules k (record { state = Delegated; realm = None })) (granule_is other there);
    cleared = λ other there.
        ap (page_at after) (sym (granule_is other there))
        ∙ page_at-with_word_other mid table (entry_index above ipa) (entry_word row) granule (λ q. above_apart (sym q))
        ∙ ap (λ (p : List (List ℕ)). page_at p granule) mid_is ∙ get_or-set_same pages granule zero_page [] granule_within;
    tables = record {
      own = destroyed_granules (entries_of pages) (entries_of after) granules rd root level above ipa table granule tables.own next place inside.below at was unused wrote kept
          moved_granules Delegated None (Moves-set granules granule Delegated None lies);
      words = destroyed_each (entries_of pages) (entries_of after) granules rd root level above ipa table granule tables.own next place inside.below at was unused wrote kept (IsExact after)
          (exact_written mid flags sized table (entry_index above ipa) row within few refl)
          (λ l i t index there t_at lt ne out. same_exact pages after t index (far_word t index ne lt out) (tables.words l i t index there t_at lt));
      sound = subst (λ r. IsSoundRows root.width (mapping_at r)) (sym rows_after) (without_table_sound (rows pages root) level ipa entry tables.sound (table_place ipa level place) row_there all_unused);
    };
    others = λ other no_table.
        beside other (λ q. no_table (record { level = above; ipa = ipa; inside = inside; at = at ∙ ap (λ (k : ℕ). Some k) (sym q) }))
        (λ q. no_table (record { level = level; ipa = ipa; inside = deep; at = its ∙ ap (λ (k : ℕ). Some k) (sym q) }));
    other_realms = others_left pages after granules moved_granules rd granule InRtt Delegated (Some rd) None in_rtt (λ other apart e. apart (sym (same_Some _ _ e)))
        (Moves-set granules granule Delegated None lies)
        (λ other ne no_rtt. beside other (λ q. no_rtt (subst (λ (k : ℕ). IsIn granules k InRtt (Some rd)) (sym q) (tables.own.tables above ipa table inside at))) ne);
  }

pub gone : (pages mid new_pages : List (List ℕ)) (flags mid_flags : List Bool) (granules new_granules : List Granule) (rd : ℕ) (root : Root)
    (level wanted ended ipa table index granule : ℕ) (entry row : Row)
    → IsSized mid mid_flags → IsBacked pages flags granules → HasTables pages granules rd root → wanted + 1 ≡ level → is_table_place ipa level ≡ true
    → IsInside root.width ended ipa → ended ≡ wanted → table_at (entries_of pages) root ended ipa ≡ Some table → table < length pages → index ≡ entry_index ended ipa
    → entry ≡ entries_of pages table (entry_index ended ipa) → Some granule ≡ table_of entry → granule < length pages
    → ((i : ℕ) → 0 ≤ i → i < 512 → is_unassigned (entries_of pages granule i) ≡ true) → row ≡ unassigned Destroyed
    → mid ≡ set pages granule zero_page → new_pages ≡ with_word mid table index (entry_word row) → new_granules ≡ set granules granule (record { state = Delegated; realm = None })
    → Gone pages new_pages granules new_granules rd root level ipa
gone pages mid new_pages flags mid_flags granules new_granules rd root level wanted ended ipa table index granule entry row sized backed tables next
    place inside ends at within index_is is leads granule_within
    unused row_is mid_is pages_are granules_are =
    let index_at : index ≡ entry_index wanted ipa = index_is ∙ ap (λ (l : ℕ). entry_index l ipa) ends in
    let after : new_pages ≡ with_word mid table (entry_index wanted ipa) (entry_word (unassigned Destroyed)) = pages_are ∙ (λ i. with_word mid table (index_at i) (entry_word (row_is i))) in
    let len : length mid ≡ length pages = ap length mid_is ∙ length-set pages granule zero_page in
    rw (after, granules_are)
    (gone_at pages mid mid_flags sized granules rd root level wanted ipa table granule entry tables next place (subst (λ (l : ℕ). IsInside root.width l ipa) ends inside)
    (ap (λ (l : ℕ). table_at (entries_of pages) root l ipa) (sym ends) ∙ at) (omega arith) granule_within
    (is ∙ ap (λ (l : ℕ). entries_of pages table (entry_index l ipa)) ends) leads (λ i lt. unused i (omega arith) lt) mid_is)

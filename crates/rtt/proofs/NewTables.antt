-- A proof that creating a table gives the realm the table's rows and its granule, and leaves other realms unchanged.
use Rattle.std.proofs.Common.{◌≡◌, ◌≢◌, ℕ, ◌+◌, ◌-◌, ◌<◌, ◌≤◌, Bool, true, false, List, length, set, Some, None, refl, sym, ap, subst, ◌∙◌, arith}
use Rattle.std.proofs.lemmas.Option.{same_Some}
use Rattle.std.specs.FinMap.{get}
use Rattle.granule_addr.specs.Ipa.{first_covered, entry_index}
use Rattle.granule_addr.specs.declared.width.Root.{Root}
use Rattle.rtt.specs.Granules.{IsIn}
use Rattle.rtt.specs.declared.granule.Granule.{Granule}
use Rattle.page_arena.specs.Page.{page_at, IsSized}
use Rattle.page_arena.specs.Word.{word_at, with_word}
use Rattle.page_arena.specs.Words.{page_at-with_word_other}
use Rattle.realm_model.specs.declared.states.GranuleState.TheVariants.{Delegated, Rtt as InRtt}
use Rattle.realm_model.specs.declared.states.Ripas.{Ripas}
use Rattle.realm_model.specs.Rows.{Row, row_at, unassigned, table as table_row, is_table, with_table, is_table_place, table_of}
use Rattle.realm_model.specs.Sound.{mapping_at, IsSoundRows}
use Rattle.realm_model.proofs.SoundRows.{with_table_sound}
use Rattle.realm_model.proofs.TablePlaces.{table_place}
use Rattle.rtt.specs.Word.{entry_word, IsEntry}
use Rattle.rtt.specs.Tables.{entries_of, table_at, rows}
use Rattle.rtt.specs.Realm.{IsBacked, IsInside, HasTables, LeavesOthers}
use Rattle.rtt.proofs.PlaceLaws.{index_below}
use Rattle.rtt.specs.Calls.{GainsTable, ChangesTablesAnd}
use Rattle.rtt.proofs.EntryKinds.{table_of-plain}
use Rattle.rtt.proofs.OtherRealms.{others_left}
use Rattle.rtt.proofs.Owned.{Moves-set, apart_states}
use Rattle.rtt.proofs.TableAt.{entry_at-some}
use Rattle.rtt.proofs.RowsIn.{row_at-rows_in}
use Rattle.rtt.proofs.Creates.{created_rows, created_granules, created_each}
use Rattle.rtt.proofs.Written.{IsExact, same_entry, same_exact, entry_read, exact_read, entry_written, exact_written, word_kept, word_as}

pub record Created (pages new_pages : List (List ℕ)) (granules new_granules : List Granule) (rd : ℕ) (root : Root) (level ipa granule : ℕ) : Type 0 where
  pub rows_are : GainsTable (rows pages root) level ipa granule (rows new_pages root)
  pub tables : HasTables new_pages new_granules rd root
  pub others : ChangesTablesAnd (λ other. other ≡ granule) root pages new_pages
  pub other_realms : LeavesOthers rd pages granules new_pages new_granules

module _ (pages mid : List (List ℕ)) (flags : List Bool) (sized : IsSized mid flags) (granules : List Granule) (rd : ℕ) (root : Root) (level above ipa table granule : ℕ) (old : Row)
    (tables : HasTables pages granules rd root) (next : above + 1 ≡ level) (place : is_table_place ipa level ≡ true)
    (inside : IsInside root.width above ipa) (at : table_at (entries_of pages) root above ipa ≡ Some table) (within : table < length mid)
    (is : old ≡ entries_of pages table (entry_index above ipa)) (plain : is_table old ≡ false)
    (delegated : IsIn granules granule Delegated None) (small : granule < 4096)
    (written : (index : ℕ) → index < 512 → word_at mid granule index ≡ entry_word (unassigned old.ripas))
    (others : (other : ℕ) → other ≢ granule → page_at mid other ≡ page_at pages other) where
  abbrev after : List (List ℕ)
  after = with_word mid table (entry_index above ipa) (entry_word (table_row granule))

  few : entry_index above ipa < 512
  few = index_below above ipa

  decoded : IsEntry (table_row granule)
  decoded = (small, refl)

  apart : (other : ℕ) → IsIn granules other InRtt (Some rd) → other ≢ granule
  apart other rtt = apart_states granules other granule InRtt Delegated (Some rd) None rtt delegated (λ e. cc)

  wrote : entries_of after table (entry_index above ipa) ≡ table_row granule
  wrote = entry_written mid flags sized table (entry_index above ipa) (table_row granule) within few decoded

  fresh_word : (index : ℕ) → index < 512 → word_at after granule index ≡ entry_word (unassigned old.ripas)
  fresh_word index lt =
      word_kept mid flags sized table (entry_index above ipa) (table_row granule) within few decoded granule index lt (λ s. apart table (tables.own.tables above ipa table inside at) (sym s.0))
      ∙ written index lt

  fresh : (index : ℕ) → index < 512 → entries_of after granule index ≡ unassigned old.ripas
  fresh index lt = entry_read after granule index (unassigned old.ripas) refl (fresh_word index lt)

  far_word : (other index : ℕ) → other ≢ granule → index < 512 → ((other ≡ table) × (index ≡ entry_index above ipa) → ⊥) → word_at after other index ≡ word_at pages other index
  far_word other index ne lt out = word_as mid flags sized table (entry_index above ipa) (table_row granule) within few decoded pages other index (others other ne) lt out

  kept : (other index : ℕ) → IsIn granules other InRtt (Some rd) → other ≢ granule → index < 512 → ((other ≡ table) × (index ≡ entry_index above ipa) → ⊥)
      → entries_of after other index ≡ entries_of pages other index
  kept other index _ ne lt out = same_entry pages after other index (far_word other index ne lt out)

  row_above : row_at (rows pages root) above ipa ≡ Some old
  unfolding rows
  row_above = row_at-rows_in (entries_of pages) root above ipa inside ∙ entry_at-some (entries_of pages) root above ipa table at ∙ ap (λ (r : Row). Some r) (sym is)

  none : table_of (entries_of pages table (entry_index above ipa)) ≡ None
  none = ap table_of (sym is) ∙ table_of-plain old plain

  rows_after : rows after root ≡ with_table (rows pages root) level ipa granule old.ripas
  unfolding rows
  rows_after = created_rows (entries_of pages) (entries_of after) granules rd root level above ipa table granule old.ripas None tables.own next place inside.below at none delegated wrote fresh kept

  above_is : level - 1 ≡ above
  above_is = omega arith

  row_there : get (rows pages root) (level - 1, first_covered (level - 1) ipa) ≡ Some old
  row_there = ap (λ (l : ℕ). row_at (rows pages root) l ipa) above_is ∙ row_above

  beside : (other : ℕ) → other ≢ table → other ≢ granule → page_at after other ≡ page_at pages other
  beside other far ne = page_at-with_word_other mid table (entry_index above ipa) (entry_word (table_row granule)) other far ∙ others other ne

  pub created_at : Created pages after granules (set granules granule (record { state = InRtt; realm = Some rd })) rd root level ipa granule
  unfolding rows
  created_at =
      let moved : List Granule = set granules granule (record { state = InRtt; realm = Some rd }) in
      record {
        rows_are = λ row row_is.
            let same : old ≡ row = same_Some _ _ (sym row_above ∙ ap (λ (l : ℕ). row_at (rows pages root) l ipa) (sym above_is) ∙ row_is) in
            rows_after
            ∙ ap (λ (r : Row). with_table (rows pages root) level ipa granule r.ripas) same;
        tables = record {
          own = created_granules (entries_of pages) (entries_of after) granules rd root level above ipa table granule old.ripas None tables.own next
              place inside.below at none delegated wrote fresh kept
              moved (Moves-set granules granule InRtt (Some rd) delegated.inside);
          words = created_each (entries_of pages) (entries_of after) granules rd root level above ipa table granule old.ripas None tables.own next place inside.below at none delegated wrote fresh kept
              (IsExact after)
              (exact_written mid flags sized table (entry_index above ipa) (table_row granule) within few decoded)
              (λ index lt. exact_read after granule index (unassigned old.ripas) refl (fresh_word index lt))
              (λ l i t index there t_at lt ne out. same_exact pages after t index (far_word t index ne lt out) (tables.words l i t index there t_at lt));
          sound = subst (λ r. IsSoundRows root.width (mapping_at r)) (sym rows_after) (with_table_sound (rows pages root) level ipa old tables.sound
              (table_place ipa level place) row_there granule old.ripas plain);
        };
        others = λ other ne no_table. beside other (λ q. no_table (record { level = above; ipa = ipa; inside = inside; at = at ∙ ap (λ (k : ℕ). Some k) (sym q) })) ne;
        other_realms = others_left pages after granules moved rd granule Delegated InRtt None (Some rd) delegated (λ _ _ e. cc) (Moves-set granules granule InRtt (Some rd) delegated.inside)
            (λ other ne no_rtt. beside other (λ q. no_rtt (subst (λ (k : ℕ). IsIn granules k InRtt (Some rd)) (sym q) (tables.own.tables above ipa table inside at))) ne);
      }

pub created : (pages mid new_pages : List (List ℕ)) (flags mid_flags : List Bool) (granules new_granules : List Granule) (rd : ℕ) (root : Root)
    (level wanted ended ipa table index granule : ℕ) (old fresh leads : Row) (ripas : Ripas)
    → IsSized mid mid_flags → IsBacked pages flags granules → HasTables pages granules rd root → wanted + 1 ≡ level → is_table_place ipa level ≡ true
    → IsInside root.width ended ipa → ended ≡ wanted → table_at (entries_of pages) root ended ipa ≡ Some table → table < length pages → index ≡ entry_index ended ipa
    → old ≡ entries_of pages table (entry_index ended ipa) → is_table old ≡ false → IsIn granules granule Delegated None
    → ripas ≡ old.ripas → fresh ≡ unassigned ripas → leads ≡ table_row granule
    → ((i : ℕ) → 0 ≤ i → i < 512 → word_at mid granule i ≡ entry_word fresh) → ((other : ℕ) → other ≢ granule → page_at mid other ≡ page_at pages other) → length mid ≡ length pages
    → new_pages ≡ with_word mid table index (entry_word leads) → new_granules ≡ set granules granule (record { state = InRtt; realm = Some rd })
    → Created pages new_pages granules new_granules rd root level ipa granule
created pages mid new_pages flags mid_flags granules new_granules rd root level wanted ended ipa table index granule old fresh leads ripas sized backed
    tables next place inside ends at within index_is is plain delegated
    ripas_is fresh_is leads_is written others count pages_are granules_are =
    let index_at : index ≡ entry_index wanted ipa = index_is ∙ ap (λ (l : ℕ). entry_index l ipa) ends in
    let after : new_pages ≡ with_word mid table (entry_index wanted ipa) (entry_word (table_row granule)) = pages_are ∙ (λ i. with_word mid table (index_at i) (entry_word (leads_is i))) in
    let lies = delegated.inside in
    let as_many = backed.as_many in
    let few = sized.few_pages in
    rw (after, granules_are)
    (created_at pages mid mid_flags sized granules rd root level wanted ipa table granule old tables next place (subst (λ (l : ℕ). IsInside root.width l ipa) ends inside)
    (ap (λ (l : ℕ). table_at (entries_of pages) root l ipa) (sym ends) ∙ at) (omega arith) (is ∙ ap (λ (l : ℕ). entries_of pages table (entry_index l ipa)) ends) plain delegated (omega arith)
    (λ i lt. written i (omega arith) lt ∙ ap entry_word (fresh_is ∙ ap unassigned ripas_is)) others)

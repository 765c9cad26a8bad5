-- Proofs that writing an entry of the last level changes one row of the realm, and adds or removes at most one page of
-- data.
use Rattle.std.proofs.Common.{◌≡◌, ◌≢◌, ℕ, ◌/◌, ◌<◌, List, Option, Some, None, refl, sym, ap, subst, ◌∙◌, arith, lit≤}
use Rattle.std.specs.Prelude.{option_and_then}
use Rattle.std.proofs.lemmas.Option.{same_Some}
use Rattle.granule_addr.specs.Ipa.{covered_count, entry_index}
use Rattle.granule_addr.specs.Root.{served_space}
use Rattle.granule_addr.specs.declared.width.Root.{Root}
use Rattle.rtt.specs.Granules.{IsIn}
use Rattle.rtt.specs.declared.granule.Granule.{Granule}
use Rattle.realm_model.specs.declared.states.GranuleState.{GranuleState}
use Rattle.realm_model.specs.declared.states.GranuleState.TheVariants.{Delegated, Data as InData, Rtt as InRtt}
use Rattle.realm_model.specs.declared.states.EntryState.TheVariants.{Unassigned}
use Rattle.realm_model.specs.declared.states.Ripas.{Ripas}
use Rattle.realm_model.specs.Rows.{Row, assigned, put_row, data_of}
use Rattle.rtt.specs.Tables.{Entries, table_at, data_at, rows_in}
use Rattle.rtt.specs.Realm.{IsInside, HasGranules}
use Rattle.rtt.proofs.EntryKinds.{data_of-unassigned}
use Rattle.rtt.proofs.Owned.{Moves, apart_states, HasGranules-written}
use Rattle.rtt.proofs.RowsAfter.{rows_in-last}
use Rattle.rtt.proofs.Writes.{Writes, each_written}

module _ (entries new : Entries) (granules : List Granule) (rd : ℕ) (root : Root) (ipa table : ℕ) (entry : Row)
    (own : HasGranules entries granules rd root)
    (below : ipa < served_space root.width)
    (at : table_at entries root 3 ipa ≡ Some table)
    (wrote : new table (entry_index 3 ipa) ≡ entry)
    (kept : (granule index : ℕ) → IsIn granules granule InRtt (Some rd) → index < 512 → ((granule ≡ table) × (index ≡ entry_index 3 ipa) → ⊥) → new granule index ≡ entries granule index) where
  abbrev old_entry : Row
  old_entry = entries table (entry_index 3 ipa)

  inside : IsInside root.width 3 ipa
  inside = record { least = lit≤ tt; most = lit≤ tt; below = below }

  writes : Writes entries new root 3 ipa table entry
  writes = record {
    inside = inside;
    at = at;
    wrote = wrote;
    old_below = λ child index deep _ _. absurd (omega arith);
    new_below = λ child index deep _ _. absurd (omega arith);
    kept = λ l i granule index there is few _ apart. kept granule index (own.tables l i granule there is) few apart;
  }

  -- The rows afterwards are the rows before with the entry put at its place.
  pub leaf_rows : rows_in new root ≡ put_row (rows_in entries root) 3 ipa entry
  leaf_rows = rows_in-last entries new granules rd root 3 ipa table entry own writes refl

  -- each entry afterwards has a property that the written entry and the kept entries have
  pub leaf_each : (P : ℕ → ℕ → Type 0) → P table (entry_index 3 ipa)
      → ((l i t index : ℕ) → IsInside root.width l i → table_at entries root l i ≡ Some t → index < 512 → ((t ≡ table) × (index ≡ entry_index 3 ipa) → ⊥) → P t index)
      → (l i t index : ℕ) → IsInside root.width l i → table_at new root l i ≡ Some t → index < 512 → P t index
  leaf_each P here others = each_written entries new granules rd root 3 ipa table entry own writes P here
      (λ child index deep _ _. absurd (omega arith)) (λ l i t index there is few _ apart. others l i t index there is few apart)

  own_data : (page : ℕ) → data_of old_entry ≡ Some page → data_at entries root 3 ipa ≡ Some page
  own_data page is = ap (option_and_then (λ t. data_of (entries t (entry_index 3 ipa)))) at ∙ is

  written : (new_granules : List Granule)
      → ((granule : ℕ) → IsIn granules granule InRtt (Some rd) → IsIn new_granules granule InRtt (Some rd))
      → ((l i page : ℕ) → IsInside root.width l i → data_at entries root l i ≡ Some page → (l ≡ 3 → i / covered_count 3 ≢ ipa / covered_count 3) → IsIn new_granules page InData (Some rd))
      → ((page : ℕ) → data_of entry ≡ Some page → IsIn new_granules page InData (Some rd))
      → ((l i page : ℕ) → data_of entry ≡ Some page → IsInside root.width l i → data_at entries root l i ≡ Some page → (l ≡ 3 → i / covered_count 3 ≢ ipa / covered_count 3) → ⊥)
      → HasGranules new new_granules rd root
  written new_granules stay data_stays data_new data_once = HasGranules-written entries new granules rd root 3 ipa table entry own writes new_granules (record {
    tables_stay = λ l i t there is _. stay t (own.tables l i t there is);
    table_new = λ t deep _. absurd (omega arith);
    table_once = λ l i t deep _ _ _ _. absurd (omega arith);
    data_stays = data_stays;
    data_new = data_new;
    data_once = data_once;
  })

  -- The realm still owns its granules, and now owns the page that the entry leads to, which was DELEGATED.
  pub leaf_mapped : (new_granules : List Granule) (ripas : Ripas) (page : ℕ) (realm : Option ℕ) → entry ≡ assigned ripas page
      → IsIn granules page Delegated realm → Moves granules new_granules page InData (Some rd) → HasGranules new new_granules rd root
  leaf_mapped new_granules ripas page realm entry_is was moves =
      let is_page : (other : ℕ) → data_of entry ≡ Some other → other ≡ page = λ other is. sym (same_Some _ _ (sym (ap data_of entry_is) ∙ is)) in
      let apart : (state : GranuleState) (other : ℕ) → IsIn granules other state (Some rd) → state ≢ Delegated → other ≢ page = λ state other is differ.
      apart_states granules other page state Delegated (Some rd) realm is was differ in
      let data_apart : (other : ℕ) → IsIn granules other InData (Some rd) → other ≢ page = λ other is. apart InData other is (λ e. cc) in
      written new_granules
      (λ granule is. moves.others granule InRtt (Some rd) (apart InRtt granule is (λ e. cc)) is)
      (λ l i other there is _. moves.others other InData (Some rd) (data_apart other (own.«data» l i other there is)) (own.«data» l i other there is))
      (λ other is. subst (λ (k : ℕ). IsIn new_granules k InData (Some rd)) (sym (is_page other is)) moves.now)
      (λ l i other is there was_at _. data_apart other (own.«data» l i other there was_at) (is_page other is))

  -- If the new entry is UNASSIGNED, and only the granule of the old entry's page changes, the realm owns the granules
  -- of its tables and pages.
  pub leaf_unmapped : (new_granules : List Granule) (page : ℕ) (state : GranuleState) (realm : Option ℕ) → entry.state ≡ Unassigned
      → data_of old_entry ≡ Some page → Moves granules new_granules page state realm → HasGranules new new_granules rd root
  leaf_unmapped new_granules page state realm entry_is was moves =
      let was_data : IsIn granules page InData (Some rd) = own.«data» 3 ipa page inside (own_data page was) in
      let nothing : (other : ℕ) → data_of entry ≡ Some other → ⊥ = λ other is. let clash : None ≡ Some other = sym (data_of-unassigned entry entry_is) ∙ is in cc in
      written new_granules
      (λ granule is. moves.others granule InRtt (Some rd) (apart_states granules granule page InRtt InData (Some rd) (Some rd) is was_data (λ e. cc)) is)
      (λ l i other there is out. moves.others other InData (Some rd)
      (λ same. let both = own.data_once l i 3 ipa page there inside (is ∙ ap (λ (k : ℕ). Some k) same) (own_data page was) in
      out both.0 (ap (λ (k : ℕ). i / covered_count k) (sym both.0) ∙ both.1))
      (own.«data» l i other there is))
      (λ other is. absurd (nothing other is))
      (λ l i other is _ _ _. absurd (nothing other is))

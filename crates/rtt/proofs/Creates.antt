-- Proofs that writing an entry that leads to a new table adds the table's rows and its granule to the realm.
use Rattle.std.proofs.Common.{◌≡◌, ◌≢◌, ℕ, suc, ◌+◌, ◌*◌, ◌/◌, ◌<◌, true, false, cond, List, Option, Some, None, inl, inr, ⊎_elim, refl, sym, ap, subst, ◌∙◌, arith}
use Rattle.std.specs.Prelude.{option_and_then}
use Rattle.std.specs.FinMap.{get}
use Rattle.std.proofs.lemmas.Option.{same_Some}
use Rattle.granule_addr.specs.Ipa.{covered_count, first_covered, entry_index}
use Rattle.granule_addr.specs.Root.{served_space}
use Rattle.granule_addr.specs.declared.width.Root.{Root}
use Rattle.rtt.specs.Granules.{IsIn}
use Rattle.rtt.specs.declared.granule.Granule.{Granule}
use Rattle.realm_model.specs.declared.states.GranuleState.{GranuleState}
use Rattle.realm_model.specs.declared.states.GranuleState.TheVariants.{Delegated, Data as InData, Rtt as InRtt}
use Rattle.realm_model.specs.declared.states.Ripas.{Ripas}
use Rattle.realm_model.specs.Rows.{Row, Rows, put_row, put_rows, unassigned, table as table_row, with_table, is_table_place, table_of}
use Rattle.realm_model.proofs.Rows.{is_place as is_at, get-put_rows}
use Rattle.rtt.proofs.FiniteRowsLaws.{place_tells}
use Rattle.rtt.specs.Tables.{Entries, table_at, is_place, row_in, rows_in}
use Rattle.rtt.specs.Realm.{IsInside, HasGranules}
use Rattle.rtt.proofs.PlaceLaws.{index_below, place_facts, below_is_place, place_is_below, is_under, under_cases}
use Rattle.rtt.proofs.RowsIn.{get-rows_in, rows_in-from, row_in-none}
use Rattle.rtt.proofs.RowRuns.{get-insert_row, get-put_rows_beside}
use Rattle.rtt.proofs.Writes.{Writes, each_written}
use Rattle.rtt.proofs.RowsAfter.{row_in-written}
use Rattle.rtt.proofs.Owned.{Moves, apart_states, HasGranules-written}
use Rattle.rtt.proofs.BelowRows as below_rows

-- the written entry leads to a new table, and all entries of that table are equal
module _ (entries new : Entries) (granules : List Granule) (rd : ℕ) (root : Root) (above ipa table : ℕ) (entry : Row)
    (own : HasGranules entries granules rd root) (w : Writes entries new root above ipa table entry)
    (high : above < 3) (granule : ℕ) (row : Row) (leads : table_of entry ≡ Some granule) (fresh : (index : ℕ) → index < 512 → new granule index ≡ row) where
  abbrev first : ℕ
  first = first_covered above ipa

  abbrev base : Rows
  base = put_row (rows_in entries root) above ipa entry

  abbrev made : Rows
  made = put_rows (λ _. row) base (suc above) first 512

  base_has : (l i : ℕ) → get base (l, i) ≡ cond (is_at (l, i) (above, first)) (Some entry) (row_in entries root l i)
  base_has l i = get-insert_row (rows_in entries root) (above, first) (l, i) entry ∙ ap (cond (is_at (l, i) (above, first)) (Some entry)) (get-rows_in entries root l i)

  made_row : (l i : ℕ) → cond (is_at (l, i) (above, first)) (Some entry)
      (cond (is_under (suc above) above ipa l i) (cond (is_place root.width l i) (option_and_then (λ t. Some (new t (entry_index l i))) (table_of entry)) None) (row_in entries root l i))
      ≡ get made (l, i)
  made_row l i =
      let at_test = is_at (l, i) (above, first) in
      let under_test = is_under (suc above) above ipa l i in
      let index = entry_index l i in
      let below = cond (is_place root.width l i) (option_and_then (λ t. Some (new t index)) (table_of entry)) None in
      let was = row_in entries root l i in
      elim (under_cases (suc above) above ipa l i) [
        | inl u ↦
            let off : at_test ≡ false = ⊎_elim (λ t. let same : l ≡ above = ap (λ (q : ℕ × ℕ). q.0) t.1 in let deep = u.1 in absurd (omega arith)) (λ t. t.0) (place_tells (l, i) (above, first)) in
            ap (λ b. cond b (Some entry) (cond under_test below was)) off ∙ ap (λ b. cond b below was) u.0
            ∙ elim (is_place root.width l i) as (λ b. is_place root.width l i ≡ b → cond b (option_and_then (λ t. Some (new t index)) (table_of entry)) None ≡ get made (l, i)) [
              | true ↦ λ place.
                  let whole : first_covered (suc above) i ≡ i = ap (λ (k : ℕ). first_covered k i) (sym u.1) ∙ (place_facts root.width l i place).first in
                  let at : i ≡ first + entry_index (suc above) i * covered_count (suc above) = place_is_below above ipa i w.inside.least high whole u.2 in
                  let level_is : l ≡ suc above = u.1 in
                  ap (option_and_then (λ t. Some (new t index))) leads
                  ∙ ap (λ x. Some x) (fresh index (index_below l i))
                  ∙ sym (ap (get made) (λ j. (level_is j, at j)) ∙ get-put_rows (λ _. row) base (suc above) first 512 (entry_index (suc above) i) (index_below (suc above) i))
              | false ↦ λ place.
                  let outside : (k : ℕ) → k < 512 → (l, i) ≡ (suc above, first + k * covered_count (suc above)) → ⊥ = λ k few q.
                  let clash : false ≡ true = sym place ∙ ap (λ (p : ℕ × ℕ). is_place root.width p.0 p.1) q ∙ (below_is_place root.width above ipa k w.inside high few).1 in cc in
                  sym (get-put_rows_beside (λ _. row) base (suc above) first 512 (l, i) outside ∙ base_has l i
                  ∙ ap (λ b. cond b (Some entry) was) off ∙ row_in-none entries root l i place)
            ] refl
        | inr u ↦
            let outside : (k : ℕ) → k < 512 → (l, i) ≡ (suc above, first + k * covered_count (suc above)) → ⊥ = λ k few q.
            u.1 (ap (λ (p : ℕ × ℕ). p.0) q) (ap (λ (p : ℕ × ℕ). p.1 / covered_count above) q ∙ (below_is_place root.width above ipa k w.inside high few).0) in
            ap (λ b. cond at_test (Some entry) (cond b below was)) u.0
            ∙ sym (get-put_rows_beside (λ _. row) base (suc above) first 512 (l, i) outside ∙ base_has l i)
      ]

  rows_in-below : rows_in new root ≡ made
  rows_in-below = rows_in-from new root made (λ l i. row_in-written entries new granules rd root above ipa table entry own w l i ∙ made_row l i)

module _ (entries new : Entries) (granules : List Granule) (rd : ℕ) (root : Root) (level above ipa table granule : ℕ) (ripas : Ripas) (realm : Option ℕ)
    (own : HasGranules entries granules rd root)
    (next : above + 1 ≡ level)
    (place : is_table_place ipa level ≡ true)
    (below : ipa < served_space root.width)
    (at : table_at entries root above ipa ≡ Some table)
    (was_none : table_of (entries table (entry_index above ipa)) ≡ None)
    (delegated : IsIn granules granule Delegated realm)
    (wrote : new table (entry_index above ipa) ≡ table_row granule)
    (fresh : (index : ℕ) → index < 512 → new granule index ≡ unassigned ripas)
    (kept : (other index : ℕ) → IsIn granules other InRtt (Some rd) → other ≢ granule → index < 512 → ((other ≡ table) × (index ≡ entry_index above ipa) → ⊥)
    → new other index ≡ entries other index) where
  -- a granule of the realm in a state other than DELEGATED is not the granule of the new table
  apart : (state : GranuleState) (other : ℕ) → state ≢ Delegated → IsIn granules other state (Some rd) → other ≢ granule
  apart state other differ is = apart_states granules other granule state Delegated (Some rd) realm is delegated differ

  apart_table : (other : ℕ) → IsIn granules other InRtt (Some rd) → other ≢ granule
  apart_table other is = apart InRtt other (λ e. cc) is

  writes : Writes entries new root above ipa table (table_row granule)
  writes = record {
    inside = below_rows.above_inside level above ipa next place root.width below;
    at = at;
    wrote = wrote;
    old_below = λ child index _ is _. let clash : None ≡ Some child = sym was_none ∙ is in cc;
    new_below = λ child index _ is few. let same : child ≡ granule = sym (same_Some granule child is) in
        ap (λ (k : ℕ). (new k index).state) same ∙ ap (λ (r : Row). r.state) (fresh index few);
    kept = λ l i other index inside is few _ out. let there = own.tables l i other inside is in kept other index there (apart_table other there) few out;
  }

  -- The rows afterwards are the rows before, with a TABLE row for the new table and with the table's own rows.
  pub created_rows : rows_in new root ≡ with_table (rows_in entries root) level ipa granule ripas
  unfolding with_table
  created_rows =
      let rows = rows_in entries root in
      rows_in-below entries new granules rd root above ipa table (table_row granule) own writes (below_rows.high level above ipa next place) granule (unassigned ripas) refl fresh
      ∙ ap (λ (k : ℕ). put_rows (λ _. unassigned ripas) (put_row rows above ipa (table_row granule)) (suc above) k 512) (below_rows.first level above ipa next place)
      ∙ ap (λ (k : ℕ). put_rows (λ _. unassigned ripas) (put_row rows above ipa (table_row granule)) k ipa 512) (below_rows.suc_above level above ipa next place)
      ∙ ap (λ (k : ℕ). put_rows (λ _. unassigned ripas) (put_row rows k ipa (table_row granule)) level ipa 512) (sym (below_rows.above_is level above ipa next place))

  -- The realm still owns its granules, and now also the granule of the new table, which was DELEGATED.
  pub created_granules : (new_granules : List Granule) → Moves granules new_granules granule InRtt (Some rd) → HasGranules new new_granules rd root
  created_granules new_granules moves = HasGranules-written entries new granules rd root above ipa table (table_row granule) own writes new_granules (record {
    tables_stay = λ l i t inside is _. let was = own.tables l i t inside is in moves.others t InRtt (Some rd) (apart_table t was) was;
    table_new = λ t _ is. subst (λ (k : ℕ). IsIn new_granules k InRtt (Some rd)) (same_Some granule t is) moves.now;
    table_once = λ l i t _ is inside was_at _. apart_table t (own.tables l i t inside was_at) (sym (same_Some granule t is));
    data_stays = λ l i page inside is _. let was = own.«data» l i page inside is in moves.others page InData (Some rd) (apart InData page (λ e. cc) was) was;
    data_new = λ page is. let clash : None ≡ Some page = is in cc;
    data_once = λ l i page is _ _ _. let clash : None ≡ Some page = is in cc;
  })

  -- each entry afterwards has a property that the written entry, the new table's entries and the kept entries have
  pub created_each : (P : ℕ → ℕ → Type 0) → P table (entry_index above ipa) → ((index : ℕ) → index < 512 → P granule index)
      → ((l i t index : ℕ) → IsInside root.width l i → table_at entries root l i ≡ Some t → index < 512 → t ≢ granule → ((t ≡ table) × (index ≡ entry_index above ipa) → ⊥) → P t index)
      → (l i t index : ℕ) → IsInside root.width l i → table_at new root l i ≡ Some t → index < 512 → P t index
  created_each P here its others = each_written entries new granules rd root above ipa table (table_row granule) own writes P here
      (λ child index _ is few. subst (λ (k : ℕ). P k index) (same_Some granule child is) (its index few))
      (λ l i t index inside is few _ out. others l i t index inside is few (apart_table t (own.tables l i t inside is)) out)

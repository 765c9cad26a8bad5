-- Proofs that a realm with starting tables alone has these tables' rows and granules, and that `has_root_table` says
-- whether a starting table has a TABLE entry.
use Rattle.std.proofs.Common.{◌≡◌, ◌≢◌, ℕ, zero, suc, ◌+◌, ◌*◌, ◌/◌, ◌%◌, ◌<◌, ◌≤◌, Bool, true, false, not, List, Some, None, inl, inr, refl, sym, ap, subst, ◌∙◌, arith, lit≤}
use Rattle.std.specs.Prelude.{option_and_then}
use Rattle.std.specs.FinMap.{get, empty, get-empty}
use Rattle.std.proofs.lemmas.Bool.{cases_eq}
use Rattle.std.proofs.lemmas.Option.{same_Some}
use Rattle.granule_addr.specs.Ipa.{covered_count, first_covered, entry_index, start_index, served_count}
use Rattle.granule_addr.specs.Root.{start_count, served_space, start_table}
use Rattle.granule_addr.specs.declared.width.Root.{Root}
use Rattle.rtt.specs.Granules.{IsIn}
use Rattle.rtt.specs.declared.granule.Granule.{Granule}
use Rattle.realm_model.specs.declared.states.GranuleState.TheVariants.{Rtt as InRtt}
use Rattle.realm_model.specs.declared.states.Ripas.TheVariants.{Empty}
use Rattle.realm_model.specs.Rows.{Row, place_cmp, put_rows, unassigned, is_table, root_rows, has_root_table, table_of, data_of}
use Rattle.realm_model.proofs.Booleans.{not_true, not_false}
use Rattle.realm_model.proofs.Rows.{get-put_rows}
use Rattle.rtt.specs.Tables.{Entries, table_at, entry_at, data_at, is_place, row_in, rows_in}
use Rattle.rtt.specs.Realm.{IsInside, HasGranules}
use Rattle.rtt.proofs.PlaceLaws.{index_below, place_facts, is_place_from}
use Rattle.rtt.proofs.StartTables.{start_index_below}
use Rattle.rtt.proofs.TableAt.{table_at-root, entry_at-some}
use Rattle.rtt.proofs.RowsIn.{get-rows_in, rows_in-from, row_in-place, row_in-none}
use Rattle.rtt.proofs.RowRuns.{get-put_rows_beside, all_rows_each, all_rows_fails}

-- the first IPA granule of each entry of the starting tables is a place of level 1
root_place : (width k : ℕ) → k < 512 * start_count width → is_place width 1 (0 + k * 262144) ≡ true
root_place width k few =
    let first : (0 + k * 262144) / 262144 * 262144 ≡ 0 + k * 262144 = omega arith in
    is_place_from width 1 (0 + k * 262144) (record { least = lit≤ tt; most = lit≤ tt; below = omega arith }) first

-- ---- starting tables whose entries are all UNASSIGNED and EMPTY

module _ (entries : Entries) (root : Root) (blank : (number index : ℕ) → number < start_count root.width → index < 512 → entries (root.first + number) index ≡ unassigned Empty) where
  blank_at : (i : ℕ) → i < served_space root.width → entries (start_table root i) (entry_index 1 i) ≡ unassigned Empty
  blank_at i below = blank (start_index i) (entry_index 1 i) (start_index_below root.width i below) (index_below 1 i)

  no_second : (l i : ℕ) → i < served_space root.width → table_at entries root (suc (suc l)) i ≡ None
  unfolding table_at
  no_second zero i below = ap table_of (blank_at i below)
  no_second (suc l) i below = ap (option_and_then (λ t. table_of (entries t (entry_index (suc (suc l)) i)))) (no_second l i below)

  only_root : (l i table : ℕ) → i < served_space root.width → table_at entries root l i ≡ Some table → (l ≡ 1) × (table ≡ start_table root i)
  unfolding table_at
  only_root zero i table below is = cc
  only_root (suc zero) i table below is = (refl, sym (same_Some (start_table root i) table is))
  only_root (suc (suc l)) i table below is = let clash : None ≡ Some table = sym (no_second l i below) ∙ is in cc

  no_data : (l i : ℕ) → i < served_space root.width → data_at entries root l i ≡ None
  unfolding table_at
  no_data zero i below = refl
  no_data (suc zero) i below = ap data_of (blank_at i below)
  no_data (suc (suc l)) i below = ap (option_and_then (λ t. data_of (entries t (entry_index (suc (suc l)) i)))) (no_second l i below)

  -- The realm owns the starting tables.
  pub root_granules : (granules : List Granule) (rd : ℕ) → ((number : ℕ) → number < start_count root.width → IsIn granules (root.first + number) InRtt (Some rd)) → HasGranules entries granules rd root
  root_granules granules rd are_in = record {
    tables = λ l i table inside is. subst (λ (k : ℕ). IsIn granules k InRtt (Some rd)) (sym (only_root l i table inside.below is).1)
        (are_in (start_index i) (start_index_below root.width i inside.below));
    tables_once = λ l i m j table inside inside' is is'.
        let a = only_root l i table inside.below is in
        let b = only_root m j table inside'.below is' in
        (a.0 ∙ sym b.0, ap (λ (k : ℕ). i / served_count k) a.0 ∙ same_number (start_index i) (start_index j) (sym a.1 ∙ b.1) ∙ sym (ap (λ (k : ℕ). j / served_count k) b.0));
    «data» = λ l i page inside is. let clash : None ≡ Some page = sym (no_data l i inside.below) ∙ is in cc;
    data_once = λ l i m j page inside inside' is is'. let clash : None ≡ Some page = sym (no_data l i inside.below) ∙ is in cc;
  }
    where
      same_number : (n m : ℕ) → root.first + n ≡ root.first + m → n ≡ m
      same_number n m e = omega arith

  -- each entry of the realm's tables has a property that all entries of the starting tables have
  pub root_each : (P : ℕ → ℕ → Type 0) → ((number index : ℕ) → number < start_count root.width → index < 512 → P (root.first + number) index)
      → (l i t index : ℕ) → IsInside root.width l i → table_at entries root l i ≡ Some t → index < 512 → P t index
  root_each P its l i t index inside is few =
      subst (λ (k : ℕ). P k index) (sym (only_root l i t inside.below is).1) (its (start_index i) index (start_index_below root.width i inside.below) few)

  no_entry : (l i : ℕ) → i < served_space root.width → 1 ≤ l → l ≢ 1 → entry_at entries root l i ≡ None
  no_entry zero i below low ne = absurd (omega arith)
  no_entry (suc zero) i below low ne = absurd (ne refl)
  no_entry (suc (suc l)) i below low ne = ap (option_and_then (λ t. Some (entries t (entry_index (suc (suc l)) i)))) (no_second l i below)

  -- The rows are those of starting tables alone.
  pub blank_rows : rows_in entries root ≡ root_rows root.width
  unfolding root_rows
  blank_rows = rows_in-from entries root _ blank_row
    where
      count : ℕ
      count = 512 * start_count root.width

      beside : (l i : ℕ) → ((k : ℕ) → k < count → ◌≡◌ {A = ℕ × ℕ} (l, i) (1, 0 + k * covered_count 1) → ⊥) → None ≡ get (put_rows (λ _. unassigned Empty) empty 1 0 count) (l, i)
      beside l i out = sym (get-put_rows_beside (λ _. unassigned Empty) empty 1 0 count (l, i) out ∙ get-empty place_cmp (l, i))

      place_index : (i : ℕ) → i / 262144 * 262144 ≡ i → i < served_space root.width → (i / 262144 < count) × (i ≡ 0 + i / 262144 * 262144)
      place_index i first lt = (omega arith, omega arith)

      blank_row : (l i : ℕ) → row_in entries root l i ≡ get (put_rows (λ _. unassigned Empty) empty 1 0 count) (l, i)
      blank_row l i = elim (is_place root.width l i) as (λ b. is_place root.width l i ≡ b → row_in entries root l i ≡ get (put_rows (λ _. unassigned Empty) empty 1 0 count) (l, i)) [
        | true ↦ λ place.
            let facts = place_facts root.width l i place in
            row_in-place entries root l i place
            ∙ elim (cases_eq l 1) [
              | inl one ↦
                  let at = place_index i (ap (λ (k : ℕ). first_covered k i) (sym one) ∙ facts.first) facts.inside in
                  ap (λ (k : ℕ). entry_at entries root k i) one
                  ∙ entry_at-some entries root 1 i (start_table root i) (table_at-root entries root i)
                  ∙ ap (λ x. Some x) (blank_at i facts.inside)
                  ∙ sym (ap (get (put_rows (λ _. unassigned Empty) empty 1 0 count)) (λ j. (one j, at.1 j))
                  ∙ get-put_rows (λ _. unassigned Empty) empty 1 0 count (i / 262144) at.0)
              | inr ne ↦ no_entry l i facts.inside facts.least ne ∙ beside l i (λ k few q. ne (ap (λ (p : ℕ × ℕ). p.0) q))
            ]
        | false ↦ λ place.
            row_in-none entries root l i place
            ∙ beside l i (λ k few q. let clash : false ≡ true = sym place ∙ ap (λ (p : ℕ × ℕ). is_place root.width p.0 p.1) q ∙ root_place root.width k few in cc)
      ] refl

-- ---- whether an entry of a starting table is TABLE

module _ (entries : Entries) (root : Root) where
  -- The rows at the places of level 1 are the entries of the starting tables, one table after another.
  pub root_row : (k : ℕ) → k < 512 * start_count root.width → get (rows_in entries root) (1, 0 + k * covered_count 1) ≡ Some (entries (root.first + k / 512) (k % 512))
  root_row k few =
      let table : start_index (0 + k * 262144) ≡ k / 512 = omega arith in
      let index : (0 + k * 262144) / 262144 % 512 ≡ k % 512 = omega arith in
      get-rows_in entries root 1 (0 + k * 262144)
      ∙ row_in-place entries root 1 (0 + k * 262144) (root_place root.width k few)
      ∙ entry_at-some entries root 1 (0 + k * 262144) (start_table root (0 + k * 262144)) (table_at-root entries root (0 + k * 262144))
      ∙ (λ j. Some (entries (root.first + table j) (index j)))

  abbrev no_table : Row → Bool
  no_table row = not (is_table row)

  pub no_root_table : has_root_table root.width (rows_in entries root) ≡ false → (number index : ℕ) → number < start_count root.width → index < 512
      → is_table (entries (root.first + number) index) ≡ false
  no_root_table none number index few within =
      let k = number * 512 + index in
      let table : number ≡ k / 512 = omega arith in
      let at : index ≡ k % 512 = omega arith in
      ap is_table (λ j. entries (root.first + table j) (at j))
      ∙ not_true _ (all_rows_each no_table (rows_in entries root) 1 0 (512 * start_count root.width) (λ k. entries (root.first + k / 512) (k % 512)) root_row (not_false _ none) k (omega arith))

  pub root_table : has_root_table root.width (rows_in entries root) ≡ true → (number : ℕ) × (index : ℕ) × (number < start_count root.width) × (index < 512)
      × (is_table (entries (root.first + number) index) ≡ true)
  root_table some =
      let found = all_rows_fails no_table (rows_in entries root) 1 0 (512 * start_count root.width) (λ k. entries (root.first + k / 512) (k % 512)) root_row (not_true _ some) in
      let few = found.1 in
      (found.0 / 512, found.0 % 512, omega arith, omega arith, not_false _ found.2)

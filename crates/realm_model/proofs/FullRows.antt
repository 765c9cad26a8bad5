-- Proofs that no row of a realm's tables is missing after any command, so that each RTT walk ends at a row.
use Rattle.std.proofs.Common.{◌/◌, ◌≡◌, ◌≢◌, ℕ, zero, suc, ◌+◌, ◌-◌, ◌*◌, ◌<◌, ◌≤◌, Bool, true, false, cond, not, inl, inr, Some, None, refl, sym, ap, ◌∙◌, subst, arith}
use Rattle.std.specs.Prelude.{option_map, is_some, ◌==◌}
use Rattle.std.specs.FinMap.{get, insert, empty, get-empty}
use Rattle.std.proofs.lemmas.Bool.{and_parts, eqb-true, eqb-false}
use Rattle.granule_addr.specs.Ipa.{covered_count, first_covered}
use Rattle.granule_addr.specs.Root.{start_count, served_space}
use Rattle.realm_model.specs.declared.states.EntryState.TheVariants.{Unassigned}
use Rattle.realm_model.specs.declared.states.Ripas.{Ripas}
use Rattle.realm_model.specs.declared.states.Ripas.TheVariants.{Empty, Destroyed}
use Rattle.realm_model.specs.Rows.{Row, Rows, Walk, place_cmp, row_at, walk, put_rows, drop_rows, put_row, with_table, without_table, with_ram, root_rows, unassigned, table, is_unassigned, all_rows}
use Rattle.realm_model.specs.Ownership.{mapping_of_row, mapping}
use Rattle.realm_model.specs.Sound.{mapping_at, is_table_kind, IsFull}
use Rattle.realm_model.proofs.Maps.{same_place}
use Rattle.realm_model.proofs.Rows.{is_among, is_place, place_self, mapping_at-insert, put_kinds, put_there, get-drop_rows, same_rows}
use Rattle.realm_model.proofs.TablePlaces.{IsTablePlace}
use Rattle.realm_model.proofs.Booleans.{true_false}

pub root_full : (width : ℕ) → IsFull width (mapping_at (root_rows width))
unfolding root_rows
root_full width = record {
  root = λ ipa inside. ap is_some (ap (λ n. mapping_at (put_rows (λ _. unassigned Empty) empty 1 0 count) (1, n)) (whole ipa)
      ∙ put_there (unassigned Empty) empty 1 0 count (ipa / 262144) (less (start_count width) ipa inside));
  tables = λ level ipa h. absurd (true_false _ h (no_table (level, first_covered level ipa)));
}
  where
    count : ℕ
    count = 512 * start_count width

    whole : (ipa : ℕ) → ipa / 262144 * 262144 ≡ 0 + ipa / 262144 * 262144
    whole ipa = omega arith

    less : (tables ipa : ℕ) → ipa < tables * 134217728 → ipa / 262144 < 512 * tables
    less tables ipa inside = omega arith

    no_table : (q : ℕ × ℕ) → is_table_kind (mapping_at (put_rows (λ _. unassigned Empty) empty 1 0 count) q) ≡ false
    no_table q = elim (put_kinds (unassigned Empty) empty 1 0 count q) [
      | inl none ↦ ap is_table_kind (none ∙ ap (option_map mapping_of_row) (get-empty place_cmp q))
      | inr new ↦ ap is_table_kind new.0
    ]

-- ---- a row put

some_stays : (rows : Rows) (place : ℕ × ℕ) (row : Row) (q : ℕ × ℕ) → is_some (mapping_at rows q) ≡ true → is_some (mapping_at (insert rows place row) q) ≡ true
some_stays rows place row q some = ap is_some (mapping_at-insert rows place q row)
    ∙ elim (is_place q place) as (λ t. is_some (cond t (Some (mapping_of_row row)) (mapping_at rows q)) ≡ true) [ true ↦ refl | false ↦ some ]

-- no row goes missing if a row that is not TABLE is written at any place
pub put_full : {width : ℕ} (rows : Rows) (place : ℕ × ℕ) (row : Row) → IsFull width (mapping_at rows) → is_table_kind (Some (mapping_of_row row)) ≡ false → IsFull width (mapping_at (insert rows place row))
put_full rows place row full plain = record {
  root = λ ipa inside. some_stays rows place row (1, first_covered 1 ipa) (full.root ipa inside);
  tables = λ level ipa h. some_stays rows place row (level + 1, first_covered (level + 1) ipa) (full.tables level ipa (was_table (level, first_covered level ipa) h));
}
  where
    was_table : (q : ℕ × ℕ) → is_table_kind (mapping_at (insert rows place row) q) ≡ true → is_table_kind (mapping_at rows q) ≡ true
    was_table q h = elim (is_place q place) as (λ t. is_table_kind (cond t (Some (mapping_of_row row)) (mapping_at rows q)) ≡ true → is_table_kind (mapping_at rows q) ≡ true) [
      | true ↦ λ h. absurd (true_false _ h plain)
      | false ↦ λ h. h
    ] (ap is_table_kind (sym (mapping_at-insert rows place q row)) ∙ h)

-- no row goes missing if UNASSIGNED rows get RIPAS RAM
pub with_ram_full : {width : ℕ} (rows : Rows) (ipa n : ℕ) → IsFull width (mapping_at rows) → all_rows is_unassigned rows 3 ipa n ≡ true → IsFull width (mapping_at (with_ram rows ipa n))
unfolding with_ram
with_ram_full {width} rows ipa n full all = subst (IsFull width) (λ i q. same_rows rows ipa n all q i) full

-- ---- tables

-- IPA granule `i` and the first IPA granule of the entry that covers `i` are covered by the same entry of the level
-- above
pub above_covers : (level i : ℕ) → 1 ≤ level - 1 → level - 1 ≤ 2 → first_covered (level - 1) (first_covered level i) ≡ first_covered (level - 1) i
above_covers level i low high = elim (level == 2) as (λ t. (level == 2) ≡ t → first_covered (level - 1) (first_covered level i) ≡ first_covered (level - 1) i) [
  | true ↦ λ e. subst (λ l. first_covered (l - 1) (first_covered l i) ≡ first_covered (l - 1) i) (sym (eqb-true level 2 e)) (two i)
  | false ↦ λ e.
      let other : level ≢ 2 = eqb-false level 2 e in
      let last : level ≡ 3 = omega arith in
      subst (λ l. first_covered (l - 1) (first_covered l i) ≡ first_covered (l - 1) i) (sym last) (three i)
] refl
  where
    two : (i : ℕ) → i / 512 * 512 / 262144 * 262144 ≡ i / 262144 * 262144
    two i = omega arith

    three : (i : ℕ) → i / 1 * 1 / 512 * 512 ≡ i / 512 * 512
    three i = omega arith

module _ {width : ℕ} (rows : Rows) (level ipa : ℕ) (at : IsTablePlace ipa level) (full : IsFull width (mapping_at rows)) where
  abbrev up : ℕ × ℕ
  up = (level - 1, first_covered (level - 1) ipa)

  -- if the place of IPA granule `i` at level `l` is `up`, level `l + 1` is the table's, and the table covers `i`
  below_up : (l i : ℕ) → is_place (l, first_covered l i) up ≡ true → (l + 1 ≡ level) × (first_covered (level - 1) (first_covered level i) ≡ ipa)
  below_up l i e =
      let same : (l, first_covered l i) ≡ up = same_place (l, first_covered l i) up e in
      let levels : l ≡ level - 1 = ap (λ (x : ℕ × ℕ). x.0) same in
      let firsts : first_covered (level - 1) i ≡ ipa = ap (λ n. first_covered n i) (sym levels) ∙ ap (λ (x : ℕ × ℕ). x.1) same ∙ at.first in
      (ap (λ n. n + 1) levels ∙ at.low.2, above_covers level i at.low.0 at.low.1 ∙ firsts)

  -- if level `l + 1` is the table's and the table covers IPA granule `i`, the place of `i` at level `l` is `up`
  up_above : (l i : ℕ) → l + 1 ≡ level → first_covered (level - 1) (first_covered level i) ≡ ipa → is_place (l, first_covered l i) up ≡ true
  up_above l i lower under =
      let low = at.low in
      let levels : l ≡ level - 1 = omega (arith, lower, low) in
      let firsts : first_covered l i ≡ first_covered (level - 1) ipa = ap (λ n. first_covered n i) levels ∙ sym (above_covers level i low.0 low.1) ∙ under ∙ sym at.first in
      subst (λ (p : ℕ × ℕ). is_place p up ≡ true) (sym (λ j. (levels j, firsts j))) (place_self up)

  -- ---- a new table

  module _ (granule : ℕ) (ripas : Ripas) where
    abbrev topped : Rows
    topped = put_row rows (level - 1) ipa (table granule)

    abbrev made : Rows
    made = put_rows (λ _. unassigned ripas) topped level ipa 512

    made_some : (q : ℕ × ℕ) → is_some (mapping_at rows q) ≡ true → is_some (mapping_at made q) ≡ true
    made_some q some = elim (put_kinds (unassigned ripas) topped level ipa 512 q) [
      | inl same ↦ ap is_some same ∙ some_stays rows up (table granule) q some
      | inr new ↦ ap is_some new.0
    ]

    -- a row that is TABLE after the new table is made was TABLE before, unless it is the row that leads to the new
    -- table
    made_table : (q : ℕ × ℕ) → is_place q up ≡ false → is_table_kind (mapping_at made q) ≡ true → is_table_kind (mapping_at rows q) ≡ true
    made_table q e h = elim (put_kinds (unassigned ripas) topped level ipa 512 q) [
      | inl same ↦ let other = same ∙ mapping_at-insert rows up q (table granule) ∙ ap (λ t. cond t (Some (mapping_of_row (table granule))) (mapping_at rows q)) e in ap is_table_kind (sym other) ∙ h
      | inr new ↦ absurd (true_false _ h (ap is_table_kind new.0))
    ]

    made_below : (l i : ℕ) → is_place (l, first_covered l i) up ≡ true → is_some (mapping_at made (l + 1, first_covered (l + 1) i)) ≡ true
    made_below l i e =
        let there = below_up l i e in
        let k = at.aligned i there.1 in
        ap (λ n. is_some (mapping_at made (n, first_covered n i))) there.0 ∙ ap (λ n. is_some (mapping_at made (level, n))) k.2
        ∙ ap is_some (put_there (unassigned ripas) topped level ipa 512 k.0 k.1)

  pub with_table_full : (granule : ℕ) (ripas : Ripas) → IsFull width (mapping_at (with_table rows level ipa granule ripas))
  unfolding with_table
  with_table_full granule ripas = record {
    root = λ i inside. made_some granule ripas (1, first_covered 1 i) (full.root i inside);
    tables = λ l i h. elim (is_place (l, first_covered l i) up) as (λ t. is_place (l, first_covered l i) up ≡ t → is_some (mapping_at (made granule ripas) (l + 1, first_covered (l + 1) i)) ≡ true) [
      | true ↦ λ e. made_below granule ripas l i e
      | false ↦ λ e. made_some granule ripas (l + 1, first_covered (l + 1) i) (full.tables l i (made_table granule ripas (l, first_covered l i) e h))
    ] refl;
  }

  -- ---- a table that is removed

  abbrev under : ℕ × ℕ → Bool
  under q = is_among level ipa (512 * covered_count level) q

  abbrev dropped : Rows
  dropped = drop_rows rows level ipa (512 * covered_count level)

  abbrev left_rows : Rows
  left_rows = put_row dropped (level - 1) ipa (unassigned Destroyed)

  mapping_at-dropped : (q : ℕ × ℕ) → mapping_at dropped q ≡ cond (not (under q)) (mapping_at rows q) None
  mapping_at-dropped q = ap (option_map mapping_of_row) (get-drop_rows rows level ipa (512 * covered_count level) q)
      ∙ elim (under q) as (λ t. option_map mapping_of_row (cond (not t) (get rows q) None) ≡ cond (not t) (mapping_at rows q) None) [ true ↦ refl | false ↦ refl ]

  under_is : (l i : ℕ) → under (l, first_covered l i) ≡ true → (l ≡ level) × (first_covered (level - 1) (first_covered level i) ≡ ipa)
  under_is l i u =
      let same : l ≡ level = eqb-true l level (and_parts _ _ (and_parts _ _ u).0).0 in
      (same, at.from_among (first_covered level i) (subst (λ n. under (n, first_covered n i) ≡ true) same u))

  left_some : (q : ℕ × ℕ) → under q ≡ false → is_some (mapping_at rows q) ≡ true → is_some (mapping_at left_rows q) ≡ true
  left_some q u some = some_stays dropped up (unassigned Destroyed) q (ap is_some (mapping_at-dropped q ∙ ap (λ t. cond (not t) (mapping_at rows q) None) u) ∙ some)

  dropped_table : (q : ℕ × ℕ) → is_table_kind (mapping_at dropped q) ≡ true → is_table_kind (mapping_at rows q) ≡ true
  dropped_table q h = elim (under q) as (λ t. is_table_kind (cond (not t) (mapping_at rows q) None) ≡ true → is_table_kind (mapping_at rows q) ≡ true) [
    | true ↦ λ h. cc
    | false ↦ λ h. h
  ] (ap is_table_kind (sym (mapping_at-dropped q)) ∙ h)

  -- a row that is TABLE after the table is removed was TABLE before, and is not the row that led to the removed table
  left_table : (q : ℕ × ℕ) → is_table_kind (mapping_at left_rows q) ≡ true → (is_place q up ≡ false) × (is_table_kind (mapping_at rows q) ≡ true)
  left_table q h = elim (is_place q up) as (λ t. is_table_kind (cond t (Some (mapping Unassigned None)) (mapping_at dropped q)) ≡ true → (t ≡ false) × (is_table_kind (mapping_at rows q) ≡ true)) [
    | true ↦ λ h. cc
    | false ↦ λ h. (refl, dropped_table q h)
  ] (ap is_table_kind (sym (mapping_at-insert dropped up q (unassigned Destroyed))) ∙ h)

  pub without_table_full : IsFull width (mapping_at (without_table rows level ipa))
  unfolding without_table
  without_table_full = record {
    root = λ i inside. elim (under (1, first_covered 1 i)) as (λ t. under (1, first_covered 1 i) ≡ t → is_some (mapping_at left_rows (1, first_covered 1 i)) ≡ true) [
      | true ↦ λ u. let low = at.low in let first : 1 ≡ level = (under_is 1 i u).0 in absurd (omega (arith, first, low))
      | false ↦ λ u. left_some (1, first_covered 1 i) u (full.root i inside)
    ] refl;
    tables = λ l i h.
        let was = left_table (l, first_covered l i) h in
        elim (under (l + 1, first_covered (l + 1) i)) as (λ t. under (l + 1, first_covered (l + 1) i) ≡ t → is_some (mapping_at left_rows (l + 1, first_covered (l + 1) i)) ≡ true) [
          | true ↦ λ u. let there = under_is (l + 1) i u in absurd (true_false _ (up_above l i there.0 there.1) was.0)
          | false ↦ λ u. left_some (l + 1, first_covered (l + 1) i) u (full.tables l i was.1)
        ] refl;
  }

-- ---- walks

-- if no row is missing, each walk to level 1 or more, for an IPA granule in the address space, ends at a row
pub walk_ends : {width : ℕ} (rows : Rows) → IsFull width (mapping_at rows) → (ipa level : ℕ) → ipa < served_space width → 1 ≤ level → is_some (walk rows ipa level) ≡ true
unfolding walk
walk_ends rows full ipa zero inside low = absurd (omega arith)
walk_ends rows full ipa (suc zero) inside low =
    elim (row_at rows 1 ipa) as (λ o. is_some (option_map mapping_of_row o) ≡ true → is_some {T = Walk} (elim o [ Some row ↦ Some (record { level = 1; row = row }) | None ↦ None ]) ≡ true) [
      | Some row ↦ λ there. refl
      | None ↦ λ there. there
    ] (full.root ipa inside)
walk_ends rows full ipa (suc (suc level)) inside low =
    elim (row_at rows (suc (suc level)) ipa) as (λ o. is_some {T = Walk} (elim o [ Some row ↦ Some (record { level = suc (suc level); row = row }) | None ↦ walk rows ipa (suc level) ]) ≡ true) [
      | Some row ↦ refl
      | None ↦ walk_ends rows full ipa (suc level) inside (omega arith)
    ]

-- The proof that commands preserve the invariant `IsSoundRows` of the rows of a realm's translation tables.
use Rattle.std.proofs.Common.{lit≤, ◌/◌, ◌≡◌, ◌≢◌, ℕ, ◌+◌, ◌-◌, ◌*◌, ◌<◌, ◌≤◌, Bool, true, false, cond, ◌&&◌, ◌||◌, not, ◌⊎◌, inl, inr, Option, Some, None, refl, sym, ap, ◌∙◌, subst, arith}
use Rattle.std.specs.Prelude.{option_map, is_some, ◌==◌, nat_le, nat_lt}
use Rattle.std.specs.FinMap.{get, insert, empty, get-empty}
use Rattle.std.proofs.lemmas.Bool.{and_parts, eqb-true, ne_eqb, eqb-false}
use Rattle.granule_addr.specs.Ipa.{covered_count, first_covered}
use Rattle.granule_addr.specs.Root.{start_count, served_space}
use Rattle.realm_model.specs.declared.states.EntryState.TheVariants.{Unassigned, Assigned, Table}
use Rattle.realm_model.specs.declared.states.Ripas.{Ripas}
use Rattle.realm_model.specs.declared.states.Ripas.TheVariants.{Empty, Destroyed}
use Rattle.realm_model.specs.declared.states.EntryState.{EntryState}
use Rattle.realm_model.specs.Rows.{Row, Rows, place_cmp, put_rows, drop_rows, put_row, with_table, without_table, with_ram, root_rows}
use Rattle.realm_model.specs.Rows.{unassigned, table, is_table, is_unassigned, is_table_unused, all_rows, has_root_table, is_table_state}
use Rattle.realm_model.specs.Ownership.{mapping_of_row, Mapping, mapping}
use Rattle.realm_model.specs.Sound.{mapping_at, IsShaped, is_table_kind, has_table, IsSoundRows, IsPlace}
use Rattle.realm_model.specs.Roles.{row_target}
use Rattle.realm_model.proofs.Maps.{same_place}
use Rattle.realm_model.proofs.Rows.{is_among, put_there, get-drop_rows, mapping_at-insert, same_rows, put_kinds, place_self, Look, is_place, all_rows_at}
use Rattle.realm_model.proofs.TablePlaces.{IsTablePlace}
use Rattle.realm_model.proofs.Booleans.{true_false, not_false, not_true}
use Rattle.realm_model.proofs.RowKinds.{plain_unassigned, unassigned_target, above_target}

pub sound_same : {width : ℕ} (f g : Look) → IsSoundRows width f → ((q : ℕ × ℕ) → f q ≡ g q) → IsSoundRows width g
sound_same {width} f g sound same = subst (IsSoundRows width) (λ i q. same q i) sound

pub absent : {A : Type 0} (o : Option A) → (is_some o ≡ true → ⊥) → o ≡ None
absent None h = refl
absent (Some x) h = absurd (h refl)

pub root_sound : (width : ℕ) → IsSoundRows width (mapping_at (root_rows width))
unfolding root_rows
root_sound width = record {
  placed = λ q some. elim (put_kinds (unassigned Empty) empty 1 0 (512 * start_count width) q) [
    | inl none ↦ absurd (true_false _ some (ap is_some (none ∙ ap (option_map mapping_of_row) (get-empty place_cmp q))))
    | inr new ↦ subst (IsPlace width) (sym new.3) (record { least = lit≤ tt; most = lit≤ tt; first = root_first new.1; inside = root_inside (start_count width) new.1 new.2 })
  ];
  shaped = λ q. elim (put_kinds (unassigned Empty) empty 1 0 (512 * start_count width) q) [
    | inl none ↦ subst (IsShaped q.0) (sym (none ∙ ap (option_map mapping_of_row) (get-empty place_cmp q))) tt
    | inr new ↦ subst (IsShaped q.0) (sym new.0) refl
  ];
  below = λ q some. elim (put_kinds (unassigned Empty) empty 1 0 (512 * start_count width) q) [
    | inl none ↦ absurd (true_false _ some (ap is_some (none ∙ ap (option_map mapping_of_row) (get-empty place_cmp q))))
    | inr new ↦ ap (λ (p : ℕ × ℕ). has_table (mapping_at (put_rows (λ _. unassigned Empty) empty 1 0 (512 * start_count width))) p) new.3
  ];
}
  where
    root_first : (k : ℕ) → (0 + k * 262144) / 262144 * 262144 ≡ 0 + k * 262144
    root_first k = omega arith

    root_inside : (tables k : ℕ) → k < 512 * tables → 0 + k * 262144 < tables * 134217728
    root_inside tables k h = omega arith

-- ---- a row that is no table, put anew

pub put_sound : {width : ℕ} (rows : Rows) (place : ℕ × ℕ) (row : Row) → IsSoundRows width (mapping_at rows) → is_some (mapping_at rows place) ≡ true → is_table_kind (mapping_at rows place) ≡ false
    → IsShaped place.0 (Some (mapping_of_row row)) → IsSoundRows width (mapping_at (insert rows place row))
put_sound {width} rows place row sound there no_table shaped = record {
  placed = λ q some. elim (is_place q place) as (λ t. is_place q place ≡ t → IsPlace width q) [
    | true ↦ λ e. subst (IsPlace width) (sym (same_place q place e)) (sound.placed place there)
    | false ↦ λ e. sound.placed q (ap is_some (sym (old q e)) ∙ some)
  ] refl;
  shaped = λ q. elim (is_place q place) as (λ t. is_place q place ≡ t → IsShaped q.0 (mapping_at (insert rows place row) q)) [
    | true ↦ λ e. subst (IsShaped q.0) (sym (new q e)) (subst (λ (p : ℕ × ℕ). IsShaped p.0 (Some (mapping_of_row row))) (sym (same_place q place e)) shaped)
    | false ↦ λ e. subst (IsShaped q.0) (sym (old q e)) (sound.shaped q)
  ] refl;
  below = λ q some. stays q (sound.below q (elim (is_place q place) as (λ t. is_place q place ≡ t → is_some (mapping_at rows q) ≡ true) [
    | true ↦ λ e. ap (λ p. is_some (mapping_at rows p)) (same_place q place e) ∙ there
    | false ↦ λ e. ap is_some (sym (old q e)) ∙ some
  ] refl));
}
  where
    new : (q : ℕ × ℕ) → is_place q place ≡ true → mapping_at (insert rows place row) q ≡ Some (mapping_of_row row)
    new q e = mapping_at-insert rows place q row ∙ ap (λ t. cond t (Some (mapping_of_row row)) (mapping_at rows q)) e

    old : (q : ℕ × ℕ) → is_place q place ≡ false → mapping_at (insert rows place row) q ≡ mapping_at rows q
    old q e = mapping_at-insert rows place q row ∙ ap (λ t. cond t (Some (mapping_of_row row)) (mapping_at rows q)) e

    table_stays : (q : ℕ × ℕ) → is_table_kind (mapping_at rows q) ≡ true → is_table_kind (mapping_at (insert rows place row) q) ≡ true
    table_stays q h = elim (is_place q place) as (λ t. is_place q place ≡ t → is_table_kind (mapping_at (insert rows place row) q) ≡ true) [
      | true ↦ λ e. absurd (true_false _ (ap (λ p. is_table_kind (mapping_at rows p)) (sym (same_place q place e)) ∙ h) no_table)
      | false ↦ λ e. ap is_table_kind (old q e) ∙ h
    ] refl

    stays : (q : ℕ × ℕ) → has_table (mapping_at rows) q ≡ true → has_table (mapping_at (insert rows place row)) q ≡ true
    stays q h = elim (q.0 == 1) as (λ t. (t || is_table_kind (mapping_at rows (q.0 - 1, first_covered (q.0 - 1) q.1))) ≡ true
        → (t || is_table_kind (mapping_at (insert rows place row) (q.0 - 1, first_covered (q.0 - 1) q.1))) ≡ true) [
          | true ↦ λ h. refl
          | false ↦ λ h. table_stays (q.0 - 1, first_covered (q.0 - 1) q.1) h
        ] h

-- ---- tables

module _ {width : ℕ} (old : Rows) (level ipa : ℕ) (above : Row) (sound : IsSoundRows width (mapping_at old)) (at : IsTablePlace ipa level)
    (was : get old (level - 1, first_covered (level - 1) ipa) ≡ Some above) where
  abbrev up : ℕ × ℕ
  up = (level - 1, first_covered (level - 1) ipa)

  up_is : mapping_at old up ≡ Some (mapping_of_row above)
  up_is = ap (option_map mapping_of_row) was

  up_placed : IsPlace width up
  up_placed = sound.placed up (ap is_some up_is)

  inside : ipa < served_space width
  inside = subst (λ n. n < served_space width) at.first up_placed.inside

  not_first : (level == 1) ≡ false
  not_first = ne_eqb level 1 (λ e. let l = at.low in omega (arith, l, e))

  -- there is no row below a row that is not TABLE
  pub none_under : is_table above ≡ false → (q : ℕ × ℕ) → q.0 ≡ level → first_covered (level - 1) q.1 ≡ ipa → mapping_at old q ≡ None
  none_under plain q same under = absent (mapping_at old q) (λ some.
      let parent : has_table (mapping_at old) q ≡ true = sound.below q some in
      let at_level : (q.0 == 1 || is_table_kind (mapping_at old (q.0 - 1, first_covered (q.0 - 1) q.1))) ≡ is_table_kind (mapping_at old up) =
      (λ i. same i == 1 || is_table_kind (mapping_at old (same i - 1, first_covered (same i - 1) q.1)))
      ∙ ap (λ t. t || is_table_kind (mapping_at old (level - 1, first_covered (level - 1) q.1))) not_first
      ∙ ap (λ n. is_table_kind (mapping_at old (level - 1, n))) (under ∙ sym at.first) in
      true_false _ (sym at_level ∙ parent) (ap is_table_kind up_is ∙ plain))

  pub none_among : is_table above ≡ false → (q : ℕ × ℕ) → is_among level ipa (512 * covered_count level) q ≡ true → get old q ≡ None
  none_among plain q e =
      let same : q.0 ≡ level = eqb-true q.0 level (and_parts _ _ (and_parts _ _ e).0).0 in
      looks_none (get old q) (none_under plain q same (at.from_among q.1 (subst (λ l. is_among level ipa (512 * covered_count level) (l, q.1) ≡ true) same e)))
    where
      looks_none : (o : Option Row) → option_map mapping_of_row o ≡ None → o ≡ None
      looks_none None h = refl
      looks_none (Some row) h = cc

  module _ (granule : ℕ) (ripas : Ripas) (no_table : is_table above ≡ false) where
    abbrev topped : Rows
    topped = put_row old (level - 1) ipa (table granule)

    abbrev made : Rows
    made = put_rows (λ _. unassigned ripas) topped level ipa 512

    new_up : (q : ℕ × ℕ) → is_place q up ≡ true → mapping_at topped q ≡ Some (mapping Table (Some granule))
    new_up q e = mapping_at-insert old up q (table granule) ∙ ap (λ t. cond t (Some (mapping_of_row (table granule))) (mapping_at old q)) e

    not_up : (q : ℕ × ℕ) → is_place q up ≡ false → mapping_at topped q ≡ mapping_at old q
    not_up q e = mapping_at-insert old up q (table granule) ∙ ap (λ t. cond t (Some (mapping_of_row (table granule))) (mapping_at old q)) e

    abbrev Fresh : ℕ × ℕ → Type 0
    Fresh q = (mapping_at made q ≡ Some (mapping Unassigned None)) × (k : ℕ) × (k < 512) × (q ≡ (level, ipa + k * covered_count level))

    fresh_under : (q : ℕ × ℕ) → Fresh q → (q.0 ≡ level) × (first_covered (level - 1) q.1 ≡ ipa)
    fresh_under q f = (ap (λ (p : ℕ × ℕ). p.0) f.3, ap (λ (p : ℕ × ℕ). first_covered (level - 1) p.1) f.3 ∙ at.below f.1 f.2)

    table_stays : (q : ℕ × ℕ) → is_table_kind (mapping_at old q) ≡ true → is_table_kind (mapping_at made q) ≡ true
    table_stays q h = elim (put_kinds (unassigned ripas) topped level ipa 512 q) [
      | inl same ↦ elim (is_place q up) as (λ t. is_place q up ≡ t → is_table_kind (mapping_at made q) ≡ true) [
        | true ↦ λ e. ap is_table_kind (same ∙ new_up q e)
        | false ↦ λ e. ap is_table_kind (same ∙ not_up q e) ∙ h
      ] refl
      | inr new ↦ let under = fresh_under q new in absurd (true_false _ h (ap is_table_kind (none_under no_table q under.0 under.1)))
    ]

    up_look : mapping_at made up ≡ Some (mapping Table (Some granule))
    up_look = elim (put_kinds (unassigned ripas) topped level ipa 512 up) [
      | inl same ↦ same ∙ new_up up (place_self up)
      | inr new ↦ let l = at.low in let e : level - 1 ≡ level = (fresh_under up new).0 in absurd (omega (arith, l, e))
    ]

    up_table : is_table_kind (mapping_at made up) ≡ true
    up_table = ap is_table_kind up_look

    stays : (q : ℕ × ℕ) → has_table (mapping_at old) q ≡ true → has_table (mapping_at made) q ≡ true
    stays q h = elim (q.0 == 1) as (λ t. (t || is_table_kind (mapping_at old (q.0 - 1, first_covered (q.0 - 1) q.1))) ≡ true
        → (t || is_table_kind (mapping_at made (q.0 - 1, first_covered (q.0 - 1) q.1))) ≡ true) [
          | true ↦ λ h. refl
          | false ↦ λ h. table_stays (q.0 - 1, first_covered (q.0 - 1) q.1) h
        ] h

    made_sound : IsSoundRows width (mapping_at made)
    made_sound = record {
      placed = λ q some. elim (put_kinds (unassigned ripas) topped level ipa 512 q) [
        | inl same ↦ elim (is_place q up) as (λ t. is_place q up ≡ t → IsPlace width q) [
          | true ↦ λ e. subst (IsPlace width) (sym (same_place q up e)) up_placed
          | false ↦ λ e. sound.placed q (ap is_some (sym (same ∙ not_up q e)) ∙ some)
        ] refl
        | inr new ↦ subst (IsPlace width) (sym new.3) (at.places width inside new.1 new.2)
      ];
      shaped = λ q. elim (put_kinds (unassigned ripas) topped level ipa 512 q) [
        | inl same ↦ elim (is_place q up) as (λ t. is_place q up ≡ t → IsShaped q.0 (mapping_at made q)) [
          | true ↦ λ e. subst (IsShaped q.0) (sym (same ∙ new_up q e)) (subst (λ (p : ℕ × ℕ). p.0 ≤ 2) (sym (same_place q up e)) at.low.1, refl)
          | false ↦ λ e. subst (IsShaped q.0) (sym (same ∙ not_up q e)) (sound.shaped q)
        ] refl
        | inr new ↦ subst (IsShaped q.0) (sym new.0) refl
      ];
      below = λ q some. elim (put_kinds (unassigned ripas) topped level ipa 512 q) [
        | inl same ↦ stays q (sound.below q (elim (is_place q up) as (λ t. is_place q up ≡ t → is_some (mapping_at old q) ≡ true) [
          | true ↦ λ e. ap (λ p. is_some (mapping_at old p)) (same_place q up e) ∙ ap is_some up_is
          | false ↦ λ e. ap is_some (sym (same ∙ not_up q e)) ∙ some
        ] refl))
        | inr new ↦ let under = fresh_under q new in
            (λ i. under.0 i == 1 || is_table_kind (mapping_at made (under.0 i - 1, first_covered (under.0 i - 1) q.1)))
            ∙ ap (λ t. t || is_table_kind (mapping_at made (level - 1, first_covered (level - 1) q.1))) not_first
            ∙ ap (λ n. is_table_kind (mapping_at made (level - 1, n))) (under.1 ∙ sym at.first)
            ∙ up_table
      ];
    }

  pub with_table_sound : (granule : ℕ) (ripas : Ripas) → is_table above ≡ false → IsSoundRows width (mapping_at (with_table old level ipa granule ripas))
  unfolding with_table
  with_table_sound granule ripas plain = made_sound granule ripas plain

  -- after a table is added, each row is the new TABLE row, a new UNASSIGNED row, or as before
  pub with_table_cases : (granule : ℕ) (ripas : Ripas) (q : ℕ × ℕ) → is_table above ≡ false
      → ((q ≡ up) × (mapping_at (with_table old level ipa granule ripas) q ≡ Some (mapping Table (Some granule))) × (row_target (mapping_at old q) ≡ None))
      ⊎ ((mapping_at (with_table old level ipa granule ripas) q ≡ Some (mapping Unassigned None)) × (mapping_at old q ≡ None)) ⊎ (mapping_at (with_table old level ipa granule ripas) q ≡ mapping_at old q)
  unfolding with_table
  with_table_cases granule ripas q plain = elim (put_kinds (unassigned ripas) (topped granule ripas plain) level ipa 512 q) [
    | inl same ↦ elim (is_place q up) as (λ t. is_place q up ≡ t → ((q ≡ up) × (mapping_at (made granule ripas plain) q ≡ Some (mapping Table (Some granule))) × (row_target (mapping_at old q) ≡ None))
        ⊎ ((mapping_at (made granule ripas plain) q ≡ Some (mapping Unassigned None)) × (mapping_at old q ≡ None)) ⊎ (mapping_at (made granule ripas plain) q ≡ mapping_at old q)) [
          | true ↦ λ e. inl (
            same_place q up e,
            same ∙ new_up granule ripas plain q e,
            ap (λ p. row_target (mapping_at old p)) (same_place q up e) ∙ ap row_target up_is
                ∙ above_target (level - 1) above.state above.granule at.low.1 (subst (IsShaped (level - 1)) up_is (sound.shaped up)) plain,
          )
          | false ↦ λ e. inr (inr (same ∙ not_up granule ripas plain q e))
        ] refl
    | inr new ↦ let under = fresh_under granule ripas plain q new in inr (inl (new.0, none_under plain q under.0 under.1))
  ]

  -- after a table is added, the row above the table is TABLE, and the table's rows are UNASSIGNED
  pub mapping_at-with_table : (granule : ℕ) (ripas : Ripas) → is_table above ≡ false → mapping_at (with_table old level ipa granule ripas) up ≡ Some (mapping Table (Some granule))
  unfolding with_table
  mapping_at-with_table granule ripas plain = up_look granule ripas plain

  pub mapping_at-with_table_below : (granule : ℕ) (ripas : Ripas) (k : ℕ) → k < 512 → mapping_at (with_table old level ipa granule ripas) (level, ipa + k * covered_count level) ≡ Some (mapping Unassigned None)
  unfolding with_table
  mapping_at-with_table_below granule ripas k less = put_there (unassigned ripas) (put_row old (level - 1) ipa (table granule)) level ipa 512 k less

  -- ---- a table is removed

  module _ (unused : is_table_unused old level ipa ≡ true) where
    unused_row : (k : ℕ) → k < 512 → (row : Row) × (get old (level, ipa + k * covered_count level) ≡ Some row) × (is_unassigned row ≡ true)
    unfolding is_table_unused
    unused_row k less = all_rows_at is_unassigned old level ipa 512 k unused less

    no_table_under : (i : ℕ) → first_covered (level - 1) (first_covered level i) ≡ ipa → is_table_kind (mapping_at old (level, first_covered level i)) ≡ false
    no_table_under i h =
        let k = at.aligned i h in
        let row = unused_row k.0 k.1 in
        ap (λ n. is_table_kind (mapping_at old (level, n))) k.2 ∙ ap (λ o. is_table_kind (option_map mapping_of_row o)) row.1 ∙ plain_unassigned row.0 row.2

    abbrev dropped : Rows
    dropped = drop_rows old level ipa (512 * covered_count level)

    abbrev left_rows : Rows
    left_rows = put_row dropped (level - 1) ipa (unassigned Destroyed)

    abbrev under : ℕ × ℕ → Bool
    under q = is_among level ipa (512 * covered_count level) q

    mapping_at-dropped : (q : ℕ × ℕ) → mapping_at dropped q ≡ cond (not (under q)) (mapping_at old q) None
    mapping_at-dropped q = ap (option_map mapping_of_row) (get-drop_rows old level ipa (512 * covered_count level) q)
        ∙ elim (under q) as (λ t. option_map mapping_of_row (cond (not t) (get old q) None) ≡ cond (not t) (mapping_at old q) None) [ true ↦ refl | false ↦ refl ]

    left_up : (q : ℕ × ℕ) → is_place q up ≡ true → mapping_at left_rows q ≡ Some (mapping Unassigned None)
    left_up q e = mapping_at-insert dropped up q (unassigned Destroyed) ∙ ap (λ t. cond t (Some (mapping Unassigned None)) (mapping_at dropped q)) e

    left_under : (q : ℕ × ℕ) → is_place q up ≡ false → under q ≡ true → mapping_at left_rows q ≡ None
    left_under q e u =
        mapping_at-insert dropped up q (unassigned Destroyed) ∙ ap (λ t. cond t (Some (mapping Unassigned None)) (mapping_at dropped q)) e ∙ mapping_at-dropped q ∙ ap (λ t. cond (not t) (mapping_at old q) None) u

    left_other : (q : ℕ × ℕ) → is_place q up ≡ false → under q ≡ false → mapping_at left_rows q ≡ mapping_at old q
    left_other q e u =
        mapping_at-insert dropped up q (unassigned Destroyed) ∙ ap (λ t. cond t (Some (mapping Unassigned None)) (mapping_at dropped q)) e ∙ mapping_at-dropped q ∙ ap (λ t. cond (not t) (mapping_at old q) None) u

    under_level : (q : ℕ × ℕ) → under q ≡ true → q.0 ≡ level
    under_level q u = eqb-true q.0 level (and_parts _ _ (and_parts _ _ u).0).0

    under_up : (q : ℕ × ℕ) → under q ≡ true → first_covered (level - 1) q.1 ≡ ipa
    under_up q u = at.from_among q.1 (subst (λ l. is_among level ipa (512 * covered_count level) (l, q.1) ≡ true) (under_level q u) u)

    -- the rows of a table that is removed lead nowhere
    under_target : (q : ℕ × ℕ) → under q ≡ true → row_target (mapping_at old q) ≡ None
    under_target q u = of_look (mapping_at old q) refl
      where
        of_look : (o : Option Mapping) → mapping_at old q ≡ o → row_target o ≡ None
        of_look None e = refl
        of_look (Some row) e =
            let placed : IsPlace width q = sound.placed q (ap is_some e) in
            let whole : first_covered level q.1 ≡ q.1 = ap (λ l. first_covered l q.1) (sym (under_level q u)) ∙ placed.first in
            let k = at.aligned q.1 (ap (first_covered (level - 1)) whole ∙ under_up q u) in
            let found = unused_row k.0 k.1 in
            let same : q ≡ (level, ipa + k.0 * covered_count level) = λ i. (under_level q u i, (sym whole ∙ k.2) i) in
            ap row_target (sym e ∙ ap (mapping_at old) same ∙ ap (option_map mapping_of_row) found.1) ∙ unassigned_target found.0.state found.0.granule found.2

    from_under : (q : ℕ × ℕ) → q.0 ≡ level → first_covered (level - 1) q.1 ≡ ipa → under q ≡ true
    from_under q same h = subst (λ l. is_among level ipa (512 * covered_count level) (l, q.1) ≡ true) (sym same) (at.among q.1 h)

    -- a TABLE row directly above a place stays TABLE when a table is removed, unless the place is in that table
    parent_stays : (l i : ℕ) → under (l, i) ≡ false → (l == 1) ≡ false → is_table_kind (mapping_at old (l - 1, first_covered (l - 1) i)) ≡ true
        → is_table_kind (mapping_at left_rows (l - 1, first_covered (l - 1) i)) ≡ true
    parent_stays l i out deep h =
        let p : ℕ × ℕ = (l - 1, first_covered (l - 1) i) in
        elim (is_place p up) as (λ t. is_place p up ≡ t → is_table_kind (mapping_at left_rows p) ≡ true) [
          | true ↦ λ e.
              let low = at.low in
              let levels : l - 1 ≡ level - 1 = ap (λ (x : ℕ × ℕ). x.0) (same_place p up e) in
              let same : l ≡ level = omega (arith, low, levels) in
              let firsts : first_covered (level - 1) i ≡ ipa = ap (λ n. first_covered n i) (sym levels) ∙ ap (λ (x : ℕ × ℕ). x.1) (same_place p up e) ∙ at.first in
              absurd (true_false _ (from_under (l, i) same firsts) out)
          | false ↦ λ e. elim (under p) as (λ t. under p ≡ t → is_table_kind (mapping_at left_rows p) ≡ true) [
            | true ↦ λ u.
                let same : l - 1 ≡ level = under_level p u in
                let low : first_covered (level - 1) (first_covered level i) ≡ ipa = ap (λ n. first_covered (level - 1) (first_covered n i)) (sym same) ∙ under_up p u in
                absurd (true_false _ (ap (λ n. is_table_kind (mapping_at old (n, first_covered n i))) (sym same) ∙ h) (no_table_under i low))
            | false ↦ λ u. ap is_table_kind (left_other p e u) ∙ h
          ] refl
        ] refl

    left_below : (q : ℕ × ℕ) → under q ≡ false → is_some (mapping_at old q) ≡ true → has_table (mapping_at left_rows) q ≡ true
    left_below q out some =
        elim (q.0 == 1) as (λ t. (q.0 == 1) ≡ t → (t || is_table_kind (mapping_at old (q.0 - 1, first_covered (q.0 - 1) q.1))) ≡ true
        → (t || is_table_kind (mapping_at left_rows (q.0 - 1, first_covered (q.0 - 1) q.1))) ≡ true) [
          | true ↦ λ e h. refl
          | false ↦ λ e h. parent_stays q.0 q.1 out e h
        ] refl (sound.below q some)

    up_out : under up ≡ false
    up_out = ap (λ t. t && nat_le ipa up.1 && nat_lt up.1 (ipa + 512 * covered_count level)) (ne_eqb (level - 1) level (λ e. let l = at.low in omega (arith, l, e)))

    left_sound : IsSoundRows width (mapping_at left_rows)
    left_sound = record {
      placed = λ q some. elim (is_place q up) as (λ t. is_place q up ≡ t → IsPlace width q) [
        | true ↦ λ e. subst (IsPlace width) (sym (same_place q up e)) up_placed
        | false ↦ λ e. elim (under q) as (λ t. under q ≡ t → IsPlace width q) [
          | true ↦ λ u. absurd (true_false _ some (ap is_some (left_under q e u)))
          | false ↦ λ u. sound.placed q (ap is_some (sym (left_other q e u)) ∙ some)
        ] refl
      ] refl;
      shaped = λ q. elim (is_place q up) as (λ t. is_place q up ≡ t → IsShaped q.0 (mapping_at left_rows q)) [
        | true ↦ λ e. subst (IsShaped q.0) (sym (left_up q e)) refl
        | false ↦ λ e. elim (under q) as (λ t. under q ≡ t → IsShaped q.0 (mapping_at left_rows q)) [
          | true ↦ λ u. subst (IsShaped q.0) (sym (left_under q e u)) tt
          | false ↦ λ u. subst (IsShaped q.0) (sym (left_other q e u)) (sound.shaped q)
        ] refl
      ] refl;
      below = λ q some. elim (is_place q up) as (λ t. is_place q up ≡ t → has_table (mapping_at left_rows) q ≡ true) [
        | true ↦ λ e. subst (λ p. has_table (mapping_at left_rows) p ≡ true) (sym (same_place q up e)) (left_below up up_out (ap is_some up_is))
        | false ↦ λ e. elim (under q) as (λ t. under q ≡ t → has_table (mapping_at left_rows) q ≡ true) [
          | true ↦ λ u. absurd (true_false _ some (ap is_some (left_under q e u)))
          | false ↦ λ u. left_below q u (ap is_some (sym (left_other q e u)) ∙ some)
        ] refl
      ] refl;
    }

  pub without_table_sound : is_table_unused old level ipa ≡ true → IsSoundRows width (mapping_at (without_table old level ipa))
  unfolding without_table
  without_table_sound unused = left_sound unused

  -- after a table is removed, the row above it is UNASSIGNED, the table's rows are gone, and any other row is as before
  pub without_table_cases : is_table_unused old level ipa ≡ true → (q : ℕ × ℕ) → ((q ≡ up) × (mapping_at (without_table old level ipa) q ≡ Some (mapping Unassigned None)))
      ⊎ ((mapping_at (without_table old level ipa) q ≡ None) × (row_target (mapping_at old q) ≡ None)) ⊎ ((mapping_at (without_table old level ipa) q ≡ mapping_at old q) × (is_place q up ≡ false))
  unfolding without_table
  without_table_cases unused q = elim (is_place q up) as (λ t. is_place q up ≡ t → ((q ≡ up) × (mapping_at (left_rows unused) q ≡ Some (mapping Unassigned None)))
      ⊎ ((mapping_at (left_rows unused) q ≡ None) × (row_target (mapping_at old q) ≡ None)) ⊎ ((mapping_at (left_rows unused) q ≡ mapping_at old q) × (t ≡ false))) [
        | true ↦ λ e. inl (same_place q up e, left_up unused q e)
        | false ↦ λ e. elim (under unused q) as (λ t. under unused q ≡ t → ((q ≡ up) × (mapping_at (left_rows unused) q ≡ Some (mapping Unassigned None)))
            ⊎ ((mapping_at (left_rows unused) q ≡ None) × (row_target (mapping_at old q) ≡ None)) ⊎ ((mapping_at (left_rows unused) q ≡ mapping_at old q) × (false ≡ false))) [
              | true ↦ λ u. inr (inl (left_under unused q e u, under_target unused q u))
              | false ↦ λ u. inr (inr (left_other unused q e u, refl))
            ] refl
      ] refl

-- ---- a realm with no table below its root

-- if no row of a starting table is TABLE, the realm has only rows of starting tables, and they lead nowhere
module _ {width : ℕ} (rows : Rows) (sound : IsSoundRows width (mapping_at rows)) (plain : has_root_table width rows ≡ false) where
  no_root_table : all_rows (λ row. not (is_table row)) rows 1 0 (512 * start_count width) ≡ true
  no_root_table = not_false _ plain

  -- no row of level 1 is TABLE
  first_plain : (i : ℕ) → is_table_kind (mapping_at rows (1, i)) ≡ false
  first_plain i = of_look (mapping_at rows (1, i)) refl
    where
      row_of : (tables i : ℕ) → i / 262144 * 262144 ≡ i → i < tables * 134217728 → (k : ℕ) × (k < 512 * tables) × (i ≡ 0 + k * 262144)
      row_of tables i first inside = (i / 262144, omega arith, omega arith)

      of_look : (o : Option Mapping) → mapping_at rows (1, i) ≡ o → is_table_kind o ≡ false
      of_look None e = refl
      of_look (Some row) e =
          let placed : IsPlace width (1, i) = sound.placed (1, i) (ap is_some e) in
          let k = row_of (start_count width) i placed.first placed.inside in
          let found = all_rows_at (λ row. not (is_table row)) rows 1 0 (512 * start_count width) k.0 no_root_table k.1 in
          ap is_table_kind (sym e ∙ ap (λ n. mapping_at rows (1, n)) k.2 ∙ ap (option_map mapping_of_row) found.1) ∙ not_true _ found.2

  -- level 2 has no row, since each of its rows needs a TABLE row of level 1 above it, and level 1 has no TABLE row
  no_second : (i : ℕ) → mapping_at rows (2, i) ≡ None
  no_second i = absent (mapping_at rows (2, i)) (λ some. true_false _ (sound.below (2, i) some) (first_plain (first_covered 1 i)))

  no_third : (i : ℕ) → mapping_at rows (3, i) ≡ None
  no_third i = absent (mapping_at rows (3, i)) (λ some. true_false _ (sound.below (3, i) some) (ap is_table_kind (no_second (first_covered 2 i))))

  pub leads_nowhere : (q : ℕ × ℕ) → row_target (mapping_at rows q) ≡ None
  leads_nowhere q = of_look (mapping_at rows q) refl
    where
      first_of : (l : ℕ) → l ≡ 1 → (row : Mapping) → mapping_at rows (l, q.1) ≡ Some row → row_target (Some row) ≡ None
      first_of l one row e =
          let there : mapping_at rows (1, q.1) ≡ Some row = ap (λ l. mapping_at rows (l, q.1)) (sym one) ∙ e in
          above_target 1 row.state row.granule (lit≤ tt) (subst (IsShaped 1) there (sound.shaped (1, q.1))) (by_kind row.state row.granule (ap is_table_kind (sym there) ∙ first_plain q.1))
        where
          by_kind : (h : EntryState) (g : Option ℕ) → is_table_kind (Some (mapping h g)) ≡ false → is_table_state h ≡ false
          by_kind Unassigned g e = refl
          by_kind Assigned g e = refl
          by_kind Table g e = cc

      of_look : (o : Option Mapping) → mapping_at rows q ≡ o → row_target o ≡ None
      of_look None e = refl
      of_look (Some row) e =
          let placed : IsPlace width q = sound.placed q (ap is_some e) in
          let least : 1 ≤ q.0 = placed.least in
          let most : q.0 ≤ 3 = placed.most in
          elim (q.0 == 1) as (λ t. (q.0 == 1) ≡ t → row_target (Some row) ≡ None) [
            | true ↦ λ one. first_of q.0 (eqb-true q.0 1 one) row e
            | false ↦ λ no_one. elim (q.0 == 2) as (λ t. (q.0 == 2) ≡ t → row_target (Some row) ≡ None) [
              | true ↦ λ two. absurd (true_false _ (ap is_some e) (ap is_some (ap (λ l. mapping_at rows (l, q.1)) (eqb-true q.0 2 two) ∙ no_second q.1)))
              | false ↦ λ no_two.
                  let ones : q.0 ≢ 1 = eqb-false q.0 1 no_one in
                  let twos : q.0 ≢ 2 = eqb-false q.0 2 no_two in
                  let three : q.0 ≡ 3 = omega arith in
                  absurd (true_false _ (ap is_some e) (ap is_some (ap (λ l. mapping_at rows (l, q.1)) three ∙ no_third q.1)))
            ] refl
          ] refl

-- sound rows stay sound when UNASSIGNED rows of level 3 become RAM
pub with_ram_sound : {width : ℕ} (rows : Rows) (ipa n : ℕ) → IsSoundRows width (mapping_at rows) → all_rows is_unassigned rows 3 ipa n ≡ true → IsSoundRows width (mapping_at (with_ram rows ipa n))
unfolding with_ram
with_ram_sound rows ipa n sound all = sound_same _ _ sound (same_rows rows ipa n all)

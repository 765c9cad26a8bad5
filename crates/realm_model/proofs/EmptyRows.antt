-- The proof that the commands leave rows of unprotected IPAs UNASSIGNED and EMPTY, and TABLE rows EMPTY.
use Rattle.std.proofs.Common.{◌≡◌, ℕ, ◌+◌, ◌-◌, ◌*◌, ◌/◌, ◌^◌, ◌<◌, true, false, cond, not, inl, inr, Option, Some, refl, sym, ap, ◌∙◌, arith}
use Rattle.std.specs.Prelude.{is_some, nat_lt, ◌==◌, if◌then◌else◌}
use Rattle.std.specs.FinMap.{get, empty, get-insert, get-empty}
use Rattle.std.proofs.lemmas.Bool.{eqb-true, lt-ltb, ltb-true}
use Rattle.std.proofs.lemmas.Option.{same_Some}
use Rattle.granule_addr.specs.Ipa.{covered_count, first_covered, is_width, is_protected_at}
use Rattle.granule_addr.specs.Root.{start_count}
use Rattle.granule_addr.proofs.Spaces.{half_is}
use Rattle.realm_model.specs.declared.states.Ripas.{Ripas}
use Rattle.realm_model.specs.declared.states.Ripas.TheVariants.{Empty, Destroyed}
use Rattle.realm_model.specs.Rows.{Row, Rows, place_cmp, put_rows, drop_rows, put_row, with_table, without_table, with_ram, root_rows, unassigned, table, is_table, is_unassigned, all_rows, as_ram}
use Rattle.realm_model.specs.Sound.{HasEmptyRows}
use Rattle.realm_model.proofs.Booleans.{false_from, guarded, true_false}
use Rattle.realm_model.proofs.Maps.{place_total, same_place}
use Rattle.realm_model.proofs.Rows.{is_place, put_cases, get-drop_rows, is_among, all_rows_at}
use Rattle.realm_model.proofs.RowKinds.{plain_unassigned}
use Rattle.realm_model.proofs.TablePlaces.{IsTablePlace}
use Rattle.realm_model.proofs.FullRows.{above_covers}

-- ---- what is protected

below_alike : (i j bound : ℕ) → (i < bound → j < bound) → (j < bound → i < bound) → nat_lt i bound ≡ nat_lt j bound
below_alike i j bound to from = elim (nat_lt i bound) as (λ t. nat_lt i bound ≡ t → t ≡ nat_lt j bound) [
  | true ↦ λ low. sym (lt-ltb j bound (to (ltb-true i bound low)))
  | false ↦ λ high. sym (false_from (nat_lt j bound) (λ low. true_false _ (lt-ltb i bound (from (ltb-true j bound low))) high))
] refl

-- all IPA granules that a row covers are protected, or none is
pub same_half : (width : ℕ) → is_width width ≡ true → (level i j : ℕ) → first_covered level i ≡ first_covered level j → is_protected_at i width ≡ is_protected_at j width
same_half width known level i j same =
    ap (nat_lt i) (half_is width known)
    ∙ below_alike i j (start_count width * 2 ^ 26) (stays (start_count width) level i j same) (stays (start_count width) level j i (sym same))
    ∙ sym (ap (nat_lt j) (half_is width known))
  where
    stays : (tables level i j : ℕ) → first_covered level i ≡ first_covered level j → i < tables * 67108864 → j < tables * 67108864
    stays tables level i j = elim (level == 1) as (λ t. i / (if t then 262144 else (if level == 2 then 512 else 1)) * (if t then 262144 else (if level == 2 then 512 else 1))
        ≡ j / (if t then 262144 else (if level == 2 then 512 else 1)) * (if t then 262144 else (if level == 2 then 512 else 1)) → i < tables * 67108864 → j < tables * 67108864) [
          | true ↦ one
          | false ↦ elim (level == 2) as (λ t. i / (if t then 512 else 1) * (if t then 512 else 1) ≡ j / (if t then 512 else 1) * (if t then 512 else 1)
              → i < tables * 67108864 → j < tables * 67108864) [
                | true ↦ two
                | false ↦ three
              ]
        ]
      where
        one : i / 262144 * 262144 ≡ j / 262144 * 262144 → i < tables * 67108864 → j < tables * 67108864
        one same low = omega arith

        two : i / 512 * 512 ≡ j / 512 * 512 → i < tables * 67108864 → j < tables * 67108864
        two same low = omega arith

        three : i / 1 * 1 ≡ j / 1 * 1 → i < tables * 67108864 → j < tables * 67108864
        three same low = omega arith

-- ---- rows that are put

-- `put_rows` preserves `HasEmptyRows` if the new rows are not TABLE and cover only protected IPA granules
put_rows_empty : {width : ℕ} (change : Option Row → Row) (rows : Rows) (level first n : ℕ) → HasEmptyRows width rows
    → ((k i : ℕ) → k < n → first_covered level i ≡ first + k * covered_count level → is_protected_at i width ≡ true)
    → ((k : ℕ) → k < n → is_table (change (get rows (level, first + k * covered_count level))) ≡ false)
    → HasEmptyRows width (put_rows change rows level first n)
put_rows_empty change rows level first n old inside plain = record {
  unprotected = λ l i row out there. elim (put_cases change rows level first n (l, first_covered l i)) [
    | inl same ↦ old.unprotected l i row out (sym same ∙ there)
    | inr new ↦ absurd (true_false _ (inside new.1 i new.2 (ap (λ m. first_covered m i) (sym (ap (λ (p : ℕ × ℕ). p.0) new.3)) ∙ ap (λ (p : ℕ × ℕ). p.1) new.3)) out)
  ];
  tables = λ q row there t. elim (put_cases change rows level first n q) [
    | inl same ↦ old.tables q row (sym same ∙ there) t
    | inr new ↦
        let row_is : row ≡ change (get rows q) = same_Some _ _ (sym there ∙ new.0) in
        absurd (true_false _ t (ap is_table row_is ∙ ap (λ p. is_table (change (get rows p))) new.3 ∙ plain new.1 new.2))
  ];
}

pub put_empty : {width : ℕ} (rows : Rows) (level ipa : ℕ) (new : Row) → is_width width ≡ true → HasEmptyRows width rows → is_protected_at ipa width ≡ true → (is_table new ≡ true → new.ripas ≡ Empty)
    → HasEmptyRows width (put_row rows level ipa new)
put_empty {width} rows level ipa new known old protected table = record {
  unprotected = λ l i row out there.
      elim (is_place (l, first_covered l i) place) as (λ t. is_place (l, first_covered l i) place ≡ t → cond t (Some new) (get rows (l, first_covered l i)) ≡ Some row → row ≡ unassigned Empty) [
        | true ↦ λ at h.
            let same = same_place (l, first_covered l i) place at in
            let covered : first_covered level i ≡ first_covered level ipa = ap (λ m. first_covered m i) (sym (ap (λ (p : ℕ × ℕ). p.0) same)) ∙ ap (λ (p : ℕ × ℕ). p.1) same in
            absurd (true_false _ (same_half width known level i ipa covered ∙ protected) out)
        | false ↦ λ other h. old.unprotected l i row out h
      ] refl (sym (get-insert place_total rows place new (l, first_covered l i)) ∙ there);
  tables = λ q row there t.
      elim (is_place q place) as (λ t. cond t (Some new) (get rows q) ≡ Some row → row.ripas ≡ Empty) [
        | true ↦ λ h. let same = same_Some _ _ h in ap (λ (r : Row). r.ripas) (sym same) ∙ table (ap is_table same ∙ t)
        | false ↦ λ h. old.tables q row h t
      ] (sym (get-insert place_total rows place new q) ∙ there);
}
  where
    place : ℕ × ℕ
    place = (level, first_covered level ipa)

-- ---- rows after commands

pub root_empty : (width : ℕ) → HasEmptyRows width (root_rows width)
unfolding root_rows
root_empty width = record {
  unprotected = λ l i row out there. all_free (l, first_covered l i) row there;
  tables = λ q row there t. ap (λ (r : Row). r.ripas) (all_free q row there);
}
  where
    all_free : (q : ℕ × ℕ) (row : Row) → get (put_rows (λ _. unassigned Empty) empty 1 0 (512 * start_count width)) q ≡ Some row → row ≡ unassigned Empty
    all_free q row there = elim (put_cases (λ _. unassigned Empty) empty 1 0 (512 * start_count width) q) [
      | inl same ↦ absurd (true_false _ (ap is_some there) (ap is_some (same ∙ get-empty place_cmp q)))
      | inr new ↦ same_Some _ _ (sym there ∙ new.0)
    ]

module _ {width : ℕ} (rows : Rows) (ipa : ℕ) (known : is_width width ≡ true) (old : HasEmptyRows width rows) (protected : is_protected_at ipa width ≡ true) where
  module _ (level : ℕ) (at : IsTablePlace ipa level) where
    pub with_table_empty : (granule : ℕ) (ripas : Ripas) → HasEmptyRows width (with_table rows level ipa granule ripas)
    unfolding with_table
    with_table_empty granule ripas =
        put_rows_empty (λ _. unassigned ripas) (put_row rows (level - 1) ipa (table granule)) level ipa 512
        (put_empty rows (level - 1) ipa (table granule) known old protected (λ t. refl)) under (λ k less. refl)
      where
        under : (k i : ℕ) → k < 512 → first_covered level i ≡ ipa + k * covered_count level → is_protected_at i width ≡ true
        under k i less same =
            same_half width known (level - 1) i ipa (sym (above_covers level i at.low.0 at.low.1) ∙ ap (first_covered (level - 1)) same ∙ at.below k less ∙ sym at.first)
            ∙ protected

    pub without_table_empty : HasEmptyRows width (without_table rows level ipa)
    unfolding without_table
    without_table_empty = put_empty (drop_rows rows level ipa (512 * covered_count level)) (level - 1) ipa (unassigned Destroyed) known dropped protected (λ t. cc)
      where
        was : (q : ℕ × ℕ) (row : Row) → get (drop_rows rows level ipa (512 * covered_count level)) q ≡ Some row → get rows q ≡ Some row
        was q row there = (guarded (not (is_among level ipa (512 * covered_count level) q)) (get rows q) row (sym (get-drop_rows rows level ipa (512 * covered_count level) q) ∙ there)).1

        dropped : HasEmptyRows width (drop_rows rows level ipa (512 * covered_count level))
        dropped = record {
          unprotected = λ l i row out there. old.unprotected l i row out (was (l, first_covered l i) row there);
          tables = λ q row there t. old.tables q row (was q row there) t;
        }

  pub with_ram_empty : (n : ℕ) → (ipa / 512 == (ipa + n - 1) / 512) ≡ true → all_rows is_unassigned rows 3 ipa n ≡ true → HasEmptyRows width (with_ram rows ipa n)
  unfolding with_ram
  with_ram_empty n one all = put_rows_empty as_ram rows 3 ipa n old inside plain
    where
      inside : (k i : ℕ) → k < n → first_covered 3 i ≡ ipa + k * 1 → is_protected_at i width ≡ true
      inside k i less same = same_half width known 2 i ipa (near i k less same (eqb-true (ipa / 512) ((ipa + n - 1) / 512) one)) ∙ protected
        where
          near : (i k : ℕ) → k < n → i / 1 * 1 ≡ ipa + k * 1 → ipa / 512 ≡ (ipa + n - 1) / 512 → i / 512 * 512 ≡ ipa / 512 * 512
          near i k less same one = omega arith

      plain : (k : ℕ) → k < n → is_table (as_ram (get rows (3, ipa + k * 1))) ≡ false
      plain k less =
          let there = all_rows_at is_unassigned rows 3 ipa n k all less in
          ap (λ o. is_table (as_ram o)) there.1 ∙ plain_unassigned there.0 there.2

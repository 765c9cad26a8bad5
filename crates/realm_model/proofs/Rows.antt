-- Lemmas that give the row at each place of a realm's tables after rows are inserted or removed.
use Rattle.std.proofs.Common.{subst, ◌≡◌, ◌≢◌, ℕ, zero, suc, ◌+◌, ◌*◌, ◌^◌, ◌<◌, ◌≤◌, Bool, true, false, cond, ◌&&◌, not, Option, Some, None, lit≤, refl, sym, ap, ◌∙◌, arith, ◌⊎◌, inl, inr}
use Rattle.std.specs.Prelude.{option_map, ◌==◌, nat_le, nat_lt}
use Rattle.std.specs.Ordering.{eq_by_cmp}
use Rattle.std.specs.FinMap.{get, insert, get-insert, get-retain_keys}
use Rattle.std.specs.Cmp.{eq_by_cmp_equiv}
use Rattle.std.proofs.lemmas.Bool.{and_parts, and_from, eq-eqb, lt-ltb, le-leb, eqb-true, eqb-false}
use Rattle.std.proofs.Math.Nat.{mul-le-mul_left}
use Rattle.granule_addr.specs.Ipa.{covered_count}
use Rattle.realm_model.specs.Rows.{Row, Rows, place_cmp, put_rows, drop_rows, is_unassigned, all_rows, as_ram}
use Rattle.realm_model.specs.Ownership.{mapping_of_row, Mapping}
use Rattle.realm_model.specs.Sound.{mapping_at}
use Rattle.realm_model.proofs.Maps.{place_total, same_place, same_insert, place_cmp-IsAntisymmetric}
use Rattle.realm_model.proofs.Booleans.{true_false}
use Rattle.realm_model.proofs.RowKinds.{mapping_get, Vacant}

abbrev pub is_place : ℕ × ℕ → ℕ × ℕ → Bool
is_place q k = eq_by_cmp place_cmp q k

pub place_self : (p : ℕ × ℕ) → is_place p p ≡ true
place_self p = (eq_by_cmp_equiv place_total).refl p

abbrev pub differs : ℕ × ℕ → ℕ × ℕ → Type 0
differs q k = eq_by_cmp place_cmp q k ≡ false

pub get-put_row_other : (rows : Rows) (k q : ℕ × ℕ) (row : Row) → differs q k → get (insert rows k row) q ≡ get rows q
get-put_row_other rows k q row apart = get-insert place_total rows k row q ∙ ap (λ t. cond t (Some row) (get rows q)) apart

-- `put_rows` changes no row outside the `n` places at which it puts rows
pub get-put_rows_other : (change : Option Row → Row) (rows : Rows) (level first n : ℕ) (q : ℕ × ℕ)
    → ((k : ℕ) → k < n → differs q (level, first + k * covered_count level)) → get (put_rows change rows level first n) q ≡ get rows q
unfolding put_rows
get-put_rows_other change rows level first zero q apart = refl
get-put_rows_other change rows level first (suc n) q apart =
    get-put_row_other (put_rows change rows level first n) (level, first + n * covered_count level) q _ (apart n (omega arith))
    ∙ get-put_rows_other change rows level first n q (λ k h. apart k (omega arith))

-- after `put_rows`, the row at a place is as before, or the place is one of the `n` at which a row is put
pub put_cases : (change : Option Row → Row) (rows : Rows) (level first n : ℕ) (q : ℕ × ℕ) → (get (put_rows change rows level first n) q ≡ get rows q)
    ⊎ ((get (put_rows change rows level first n) q ≡ Some (change (get rows q))) × (k : ℕ) × (k < n) × (q ≡ (level, first + k * covered_count level)))
unfolding put_rows
put_cases change rows level first zero q = inl refl
put_cases change rows level first (suc n) q =
    let place : ℕ × ℕ = (level, first + n * covered_count level) in
    let less = put_rows change rows level first n in
    let more = insert less place (change (get rows place)) in
    let now : get more q ≡ cond (is_place q place) (Some (change (get rows place))) (get less q) = get-insert place_total less place (change (get rows place)) q in
    elim (is_place q place) as (λ t. is_place q place ≡ t → get more q ≡ cond t (Some (change (get rows place))) (get less q)
    → (get more q ≡ get rows q) ⊎ ((get more q ≡ Some (change (get rows q))) × (k : ℕ) × (k < suc n) × (q ≡ (level, first + k * covered_count level)))) [
      | true ↦ λ e now. let same = same_place q place e in inr (now ∙ ap (λ p. Some (change (get rows p))) (sym same), n, omega arith, same)
      | false ↦ λ e now. elim (put_cases change rows level first n q) [
        | inl same ↦ inl (now ∙ same)
        | inr new ↦ inr (now ∙ new.0, new.1, omega (arith, new.2), new.3)
      ]
    ] refl now

-- after `put_rows`, the row at each of its `n` places is what `change` gives for the row that was there
pub get-put_rows : (change : Option Row → Row) (rows : Rows) (level first n k : ℕ) → k < n
    → get (put_rows change rows level first n) (level, first + k * covered_count level) ≡ Some (change (get rows (level, first + k * covered_count level)))
unfolding put_rows
get-put_rows change rows level first zero k less = absurd (omega arith)
get-put_rows change rows level first (suc n) k less =
    let place : ℕ × ℕ = (level, first + n * covered_count level) in
    let q : ℕ × ℕ = (level, first + k * covered_count level) in
    let rest = put_rows change rows level first n in
    get-insert place_total rest place (change (get rows place)) q
    ∙ elim (is_place q place) as (λ t. is_place q place ≡ t → cond t (Some (change (get rows place))) (get rest q) ≡ Some (change (get rows q))) [
      | true ↦ λ e. ap (λ (p : ℕ × ℕ). Some (change (get rows p))) (sym (same_place q place e))
      | false ↦ λ e. get-put_rows change rows level first n k
          (let other : k ≢ n = λ same. true_false _ (place_self place) (ap (λ j. is_place (level, first + j * covered_count level) place) (sym same) ∙ e) in omega (arith, other))
    ] refl

-- `drop_rows` removes a row at the place: its level is the given one, and its IPA granule is one of `count` from
-- `first` on
abbrev pub is_among : ℕ → ℕ → ℕ → ℕ × ℕ → Bool
is_among level first count place = place.0 == level && nat_le first place.1 && nat_lt place.1 (first + count)

pub get-drop_rows : (rows : Rows) (level first count : ℕ) (q : ℕ × ℕ) → get (drop_rows rows level first count) q ≡ cond (not (is_among level first count q)) (get rows q) None
unfolding drop_rows
get-drop_rows rows level first count q =
    get-retain_keys rows (λ k. not (is_among level first count k)) q (λ x e. ap (λ k. not (is_among level first count k)) (sym (place_cmp-IsAntisymmetric q x e)))

pub covered_pos : (level : ℕ) → 1 ≤ covered_count level
covered_pos level =
    elim (level == 1) as (λ t. 1 ≤ cond t (2 ^ 18) (cond (level == 2) (2 ^ 9) 1)) [
      | true ↦ lit≤ tt
      | false ↦ elim (level == 2) as (λ t. 1 ≤ cond t (2 ^ 9) 1) [ true ↦ lit≤ tt | false ↦ lit≤ tt ]
    ]

-- if `drop_rows` removes the range that `n` adjacent rows of a level cover, it removes each of these rows
pub among_put : (level first n k : ℕ) → k < n → is_among level first (n * covered_count level) (level, first + k * covered_count level) ≡ true
among_put level first n k h =
    let c = covered_count level in
    let more : c * suc k ≤ c * n = mul-le-mul_left c h in
    let positive : 1 ≤ c = covered_pos level in
    let below : first + k * c < first + n * c = omega arith in
    and_from _ _ (and_from _ _ (eq-eqb level level refl) (le-leb first (first + k * c) (omega arith))) (lt-ltb _ _ below)

-- ---- a row by its kind and granule

abbrev pub Look : Type 0
Look = ℕ × ℕ → Option Mapping

pub mapping_at-insert : (rows : Rows) (k q : ℕ × ℕ) (row : Row) → mapping_at (insert rows k row) q ≡ cond (is_place q k) (Some (mapping_of_row row)) (mapping_at rows q)
mapping_at-insert rows k q row = ap (option_map mapping_of_row) (get-insert place_total rows k row q)
    ∙ elim (is_place q k) as (λ t. option_map mapping_of_row (cond t (Some row) (get rows q)) ≡ cond t (Some (mapping_of_row row)) (mapping_at rows q)) [ true ↦ refl | false ↦ refl ]

pub put_kinds : (r : Row) (rows : Rows) (level first n : ℕ) (q : ℕ × ℕ) → (mapping_at (put_rows (λ _. r) rows level first n) q ≡ mapping_at rows q)
    ⊎ ((mapping_at (put_rows (λ _. r) rows level first n) q ≡ Some (mapping_of_row r)) × (k : ℕ) × (k < n) × (q ≡ (level, first + k * covered_count level)))
put_kinds r rows level first n q = elim (put_cases (λ _. r) rows level first n q) [
  | inl same ↦ inl (ap (option_map mapping_of_row) same)
  | inr new ↦ inr (ap (option_map mapping_of_row) new.0, new.1, new.2, new.3)
]

pub put_there : (r : Row) (rows : Rows) (level first n k : ℕ) → k < n → mapping_at (put_rows (λ _. r) rows level first n) (level, first + k * covered_count level) ≡ Some (mapping_of_row r)
put_there r rows level first n k less = ap (option_map mapping_of_row) (get-put_rows (λ _. r) rows level first n k less)

pub all_rows_from : (test : Row → Bool) → ((row : Row) → mapping_of_row row ≡ Vacant → test row ≡ true) → (rows : Rows) (level first n : ℕ)
    → ((k : ℕ) → k < n → mapping_at rows (level, first + k * covered_count level) ≡ Some Vacant) → all_rows test rows level first n ≡ true
unfolding all_rows
all_rows_from test passes rows level first zero h = refl
all_rows_from test passes rows level first (suc n) h =
    let found = mapping_get (get rows (level, first + n * covered_count level)) Vacant (h n (omega arith)) in
    and_from _ _ (ap (λ o. elim o [ Some row ↦ test row | None ↦ false ]) found.1 ∙ passes found.0 found.2)
    (all_rows_from test passes rows level first n (λ k less. h k (omega arith)))

-- if `all_rows` holds, each of its `n` rows exists and passes the test
pub all_rows_at : (test : Row → Bool) (rows : Rows) (level first n k : ℕ) → all_rows test rows level first n ≡ true → k < n
    → (row : Row) × (get rows (level, first + k * covered_count level) ≡ Some row) × (test row ≡ true)
unfolding all_rows
all_rows_at test rows level first zero k h less = absurd (omega arith)
all_rows_at test rows level first (suc n) k h less =
    let parts : (elim (get rows (level, first + n * covered_count level)) [ Some row ↦ test row | None ↦ false ] ≡ true) × (all_rows test rows level first n ≡ true) = and_parts _ _ h in
    elim (k == n) as (λ t. (k == n) ≡ t → (row : Row) × (get rows (level, first + k * covered_count level) ≡ Some row) × (test row ≡ true)) [
      | true ↦ λ e. subst (λ j. (row : Row) × (get rows (level, first + j * covered_count level) ≡ Some row) × (test row ≡ true)) (sym (eqb-true k n e))
          (passing (get rows (level, first + n * covered_count level)) parts.0)
      | false ↦ λ e. let apart : k ≢ n = eqb-false k n e in all_rows_at test rows level first n k parts.1 (omega arith)
    ] refl
  where
    passing : (o : Option Row) → elim o [ Some row ↦ test row | None ↦ false ] ≡ true → (row : Row) × (o ≡ Some row) × (test row ≡ true)
    passing None h = cc
    passing (Some row) h = (row, refl, h)

-- ---- rows that become RAM

pub same_rows : (rows : Rows) (ipa n : ℕ) → all_rows is_unassigned rows 3 ipa n ≡ true → (q : ℕ × ℕ)
    → option_map mapping_of_row (get rows q) ≡ option_map mapping_of_row (get (put_rows as_ram rows 3 ipa n) q)
unfolding all_rows put_rows
same_rows rows ipa zero h q = refl
same_rows rows ipa (suc n) h q =
    let both = and_parts _ _ h in
    let place : ℕ × ℕ = (3, ipa + n * covered_count 3) in
    row_put place both.0 (same_rows rows ipa n both.1)
  where
    row_put : (place : ℕ × ℕ) → elim (get rows place) [ Some row ↦ is_unassigned row | None ↦ false ] ≡ true
        → ((q : ℕ × ℕ) → option_map mapping_of_row (get rows q) ≡ option_map mapping_of_row (get (put_rows as_ram rows 3 ipa n) q))
        → option_map mapping_of_row (get rows q) ≡ option_map mapping_of_row (get (insert (put_rows as_ram rows 3 ipa n) place (as_ram (get rows place))) q)
    row_put place there same =
        elim (get rows place) as (λ o. get rows place ≡ o → elim o [ Some row ↦ is_unassigned row | None ↦ false ] ≡ true
        → option_map mapping_of_row (get rows q) ≡ option_map mapping_of_row (get (insert (put_rows as_ram rows 3 ipa n) place (as_ram (get rows place))) q)) [
          | Some row ↦ λ e t. same_insert place_total mapping_of_row rows (put_rows as_ram rows 3 ipa n) place row (as_ram (get rows place)) e (ap (λ o. mapping_of_row (as_ram o)) (sym e)) same q
          | None ↦ λ e t. cc
        ] refl there

-- Lemmas on consecutive rows of a level: writing them leaves all other rows unchanged, and `all_rows` holds of them
-- exactly if each one passes the test.
use Rattle.std.proofs.Common.{◌≡◌, ℕ, zero, suc, ◌+◌, ◌*◌, ◌<◌, Bool, true, false, cond, ◌&&◌, Option, Some, None, ⊎_elim, refl, sym, ap, ◌∙◌, arith}
use Rattle.std.specs.FinMap.{get, insert, get-insert}
use Rattle.std.proofs.lemmas.Bool.{and_from}
use Rattle.granule_addr.specs.Ipa.{covered_count}
use Rattle.realm_model.specs.Rows.{Row, Rows, all_rows, put_rows}
use Rattle.realm_model.proofs.Maps.{place_total}
use Rattle.realm_model.proofs.Rows.{is_place as is_at, get-put_rows_other, all_rows_at}
use Rattle.std.proofs.lemmas.Option.{same_Some}
use Rattle.rtt.proofs.FiniteRowsLaws.{place_tells}

pub get-insert_row : (rows : Rows) (place q : ℕ × ℕ) (row : Row) → get (insert rows place row) q ≡ cond (is_at q place) (Some row) (get rows q)
get-insert_row rows place q row = get-insert place_total rows place row q

-- changing `n` rows of a level from `first` on leaves the rows at all other places unchanged
pub get-put_rows_beside : (change : Option Row → Row) (rows : Rows) (level first n : ℕ) (q : ℕ × ℕ)
    → ((k : ℕ) → k < n → q ≡ (level, first + k * covered_count level) → ⊥) → get (put_rows change rows level first n) q ≡ get rows q
get-put_rows_beside change rows level first n q out =
    get-put_rows_other change rows level first n q (λ k lt. ⊎_elim (λ t. absurd (out k lt t.1)) (λ t. t.0) (place_tells q (level, first + k * covered_count level)))

-- ---- rows that are those of a function

module _ (test : Row → Bool) (rows : Rows) (level first n : ℕ) (row : ℕ → Row)
    (are : (k : ℕ) → k < n → get rows (level, first + k * covered_count level) ≡ Some (row k)) where
  -- if `all_rows` holds of `n` rows, each of these rows passes the test
  pub all_rows_each : all_rows test rows level first n ≡ true → (k : ℕ) → k < n → test (row k) ≡ true
  all_rows_each all k lt =
      let found = all_rows_at test rows level first n k all lt in
      ap test (same_Some _ _ (sym (are k lt) ∙ found.1)) ∙ found.2

  -- if each of `n` rows passes the test, `all_rows` holds of these rows
  pub all_rows_true : ((k : ℕ) → k < n → test (row k) ≡ true) → all_rows test rows level first n ≡ true
  unfolding all_rows
  all_rows_true each = first_ones n (λ k lt. lt)
    where
      first_ones : (m : ℕ) → ((k : ℕ) → k < m → k < n) → all_rows test rows level first m ≡ true
      first_ones zero few = refl
      first_ones (suc m) few =
          let lt : m < n = few m (omega arith) in
          and_from _ _ (ap (λ o. elim o [ Some row ↦ test row | None ↦ false ]) (are m lt) ∙ each m lt) (first_ones m (λ k h. few k (omega arith)))

  -- if `all_rows` does not hold of `n` rows, some row among them fails the test
  pub all_rows_fails : all_rows test rows level first n ≡ false → (k : ℕ) × (k < n) × (test (row k) ≡ false)
  unfolding all_rows
  all_rows_fails fails = first_ones n (λ k lt. lt) fails
    where
      first_ones : (m : ℕ) → ((k : ℕ) → k < m → k < n) → all_rows test rows level first m ≡ false → (k : ℕ) × (k < n) × (test (row k) ≡ false)
      first_ones zero few e = cc
      first_ones (suc m) few e =
          let lt : m < n = few m (omega arith) in
          let here : elim (get rows (level, first + m * covered_count level)) [ Some row ↦ test row | None ↦ false ] ≡ test (row m) = ap
          (λ o. elim o [ Some row ↦ test row | None ↦ false ]) (are m lt) in
          elim (test (row m)) as (λ b. test (row m) ≡ b → (k : ℕ) × (k < n) × (test (row k) ≡ false)) [
            | true ↦ λ passes. first_ones m (λ k h. few k (omega arith)) (sym (ap (λ b. b && all_rows test rows level first m) (here ∙ passes)) ∙ e)
            | false ↦ λ fails. (m, lt, fails)
          ] refl

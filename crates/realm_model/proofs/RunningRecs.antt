-- Proofs that a realm's number of running RECs changes when a REC starts or stops, but not when a READY REC is created
-- or destroyed.
use Rattle.std.proofs.Common.{◌≡◌, ◌≢◌, ℕ, zero, suc, ◌+◌, ◌<◌, ◌≤◌, Bool, true, false, cond, ⊎_elim, List, [], ◌∷◌, ◌++◌, length, Some, None, refl, sym, ap, ◌∙◌, arith}
use Rattle.std.specs.Prelude.{filter, ◌==◌}
use Rattle.std.specs.List.{range_with_len}
use Rattle.std.specs.Ordering.{nat_cmp, eq_by_cmp}
use Rattle.std.specs.Cmp.{nat_cmp_total, eq_by_cmp_equiv}
use Rattle.std.specs.FinMap.{FinMap, get, insert, remove, get-insert, get-remove}
use Rattle.std.proofs.lemmas.Bool.{eqb-true, eqb-false, cases_eq}
use Rattle.std.proofs.lemmas.List.{append-nil}
use Rattle.std.proofs.lemmas.List.Elements.{filter-append, filter_agree}
use Rattle.realm_model.specs.Machine.{RecRow}
use Rattle.realm_model.specs.Running.{is_rec_running}
use Rattle.realm_model.proofs.Booleans.{false_from}
use Rattle.realm_model.proofs.Maps.{nat_place}
use Rattle.granule_addr.proofs.Runs.{range_with_len_more}

-- ---- numbers in a row that pass a test

module _ (p q : ℕ → Bool) (n : ℕ) (same : (k : ℕ) → k ≢ n → q k ≡ p k) where
  -- tests that agree on all numbers but `n` select the same numbers from a range above `n`
  count_outside : (a m : ℕ) → n < a → filter q (range_with_len a m) ≡ filter p (range_with_len a m)
  count_outside a zero out = refl
  count_outside a (suc m) out =
      (λ i. cond (same a (other a out) i) (a ∷ count_outside (a + 1) m (omega arith) i) (count_outside (a + 1) m (omega arith) i))
    where
      other : (a : ℕ) → n < a → a ≢ n
      other a out e = omega arith

  -- if two tests agree on all numbers of a range but `n`, the test that `n` passes selects one number more
  count_more : (a m : ℕ) → a ≤ n → n < a + m → p n ≡ false → q n ≡ true → length (filter q (range_with_len a m)) ≡ length (filter p (range_with_len a m)) + 1
  count_more a zero low high off on = absurd (omega arith)
  count_more a (suc m) low high off on =
      elim (a == n) as (λ t. (a == n) ≡ t → length (cond (q a) (a ∷ filter q (range_with_len (a + 1) m)) (filter q (range_with_len (a + 1) m)))
      ≡ length (cond (p a) (a ∷ filter p (range_with_len (a + 1) m)) (filter p (range_with_len (a + 1) m))) + 1) [
        | true ↦ λ e. here (eqb-true a n e)
        | false ↦ λ e. let apart : a ≢ n = eqb-false a n e in there apart (count_more (a + 1) m (omega arith) (omega arith) off on)
      ] refl
    where
      one_more : (x : ℕ) → suc x ≡ x + 1
      one_more x = omega arith

      here : a ≡ n → length (cond (q a) (a ∷ filter q (range_with_len (a + 1) m)) (filter q (range_with_len (a + 1) m)))
          ≡ length (cond (p a) (a ∷ filter p (range_with_len (a + 1) m)) (filter p (range_with_len (a + 1) m))) + 1
      here e =
          (λ i. length (cond ((ap q e ∙ on) i) (a ∷ filter q (range_with_len (a + 1) m)) (filter q (range_with_len (a + 1) m))))
          ∙ one_more (length (filter q (range_with_len (a + 1) m)))
          ∙ ap (λ xs. length xs + 1) (count_outside (a + 1) m (omega arith))
          ∙ (λ i. length (cond (sym (ap p e ∙ off) i) (a ∷ filter p (range_with_len (a + 1) m)) (filter p (range_with_len (a + 1) m))) + 1)

      there : a ≢ n → length (filter q (range_with_len (a + 1) m)) ≡ length (filter p (range_with_len (a + 1) m)) + 1
          → length (cond (q a) (a ∷ filter q (range_with_len (a + 1) m)) (filter q (range_with_len (a + 1) m)))
          ≡ length (cond (p a) (a ∷ filter p (range_with_len (a + 1) m)) (filter p (range_with_len (a + 1) m))) + 1
      there apart rest =
          ap (λ t. length (cond t (a ∷ filter q (range_with_len (a + 1) m)) (filter q (range_with_len (a + 1) m)))) (same a apart)
          ∙ both (p a) rest
        where
          both : (t : Bool) → length (filter q (range_with_len (a + 1) m)) ≡ length (filter p (range_with_len (a + 1) m)) + 1
              → length (cond t (a ∷ filter q (range_with_len (a + 1) m)) (filter q (range_with_len (a + 1) m))) ≡ length
              (cond t (a ∷ filter p (range_with_len (a + 1) m)) (filter p (range_with_len (a + 1) m))) + 1
          both true e = omega arith
          both false e = e

-- a test that no number passes selects nothing from a list
pub none_pass : (test : ℕ → Bool) (xs : List ℕ) → ((n : ℕ) → test n ≡ false) → length (filter test xs) ≡ 0
none_pass test [] none = refl
none_pass test (x ∷ xs) none = ap (λ t. length (cond t (x ∷ filter test xs) (filter test xs))) (none x) ∙ none_pass test xs none

-- if a test selects nothing from a range, each number of the range fails the test
pub none_passed : (test : ℕ → Bool) (first count n : ℕ) → first ≤ n → n < first + count → length (filter test (range_with_len first count)) ≡ 0 → test n ≡ false
none_passed test first zero n low high none = absurd (omega arith)
none_passed test first (suc count) n low high none =
    let rest = range_with_len (first + 1) count in
    let parts = parted (test first) (filter test rest) first none in
    ⊎_elim
    (λ same. ap test same ∙ parts.0)
    (λ other. none_passed test (first + 1) count n (above n first other low) (omega arith) parts.1)
    (cases_eq n first)
  where
    parted : (t : Bool) (ys : List ℕ) (x : ℕ) → length (cond t (x ∷ ys) ys) ≡ 0 → (t ≡ false) × (length ys ≡ 0)
    parted true ys x e = cc
    parted false ys x e = (refl, e)

    above : (n first : ℕ) → n ≢ first → first ≤ n → first + 1 ≤ n
    above n first other low = omega arith

-- ---- RECs

abbrev pub runs : FinMap nat_cmp RecRow → ℕ → Bool
runs recs n = is_rec_running (get recs n)

apart_key : (k n : ℕ) → k ≢ n → eq_by_cmp nat_cmp k n ≡ false
apart_key k n apart = false_from _ (λ e. apart (nat_place k n e))

runs-insert_other : (recs : FinMap nat_cmp RecRow) (n : ℕ) (rec : RecRow) (k : ℕ) → k ≢ n → runs (insert recs n rec) k ≡ runs recs k
runs-insert_other recs n rec k apart = ap is_rec_running (get-insert nat_cmp_total recs n rec k ∙ ap (λ t. cond t (Some rec) (get recs k)) (apart_key k n apart))

runs-insert_same : (recs : FinMap nat_cmp RecRow) (n : ℕ) (rec : RecRow) → runs (insert recs n rec) n ≡ is_rec_running (Some rec)
runs-insert_same recs n rec = ap is_rec_running (get-insert nat_cmp_total recs n rec n ∙ ap (λ t. cond t (Some rec) (get recs n)) ((eq_by_cmp_equiv nat_cmp_total).refl n))

abbrev pub running : FinMap nat_cmp RecRow → ℕ → ℕ
running recs next = length (filter (runs recs) (range_with_len 0 next))

-- the number of running RECs grows by one when a REC that did not run is set to run
pub running-start : (recs : FinMap nat_cmp RecRow) (next n : ℕ) (rec : RecRow) → n < next → runs recs n ≡ false → is_rec_running (Some rec) ≡ true
    → running (insert recs n rec) next ≡ running recs next + 1
running-start recs next n rec below off on =
    count_more (runs recs) (runs (insert recs n rec)) n (runs-insert_other recs n rec) 0 next (omega arith) (omega arith) off (runs-insert_same recs n rec ∙ on)

-- the number of running RECs falls by one when a REC that ran is set to not run
pub running-stop : (recs : FinMap nat_cmp RecRow) (next n : ℕ) (rec : RecRow) → n < next → runs recs n ≡ true → is_rec_running (Some rec) ≡ false
    → running (insert recs n rec) next + 1 ≡ running recs next
running-stop recs next n rec below on off =
    sym (count_more (runs (insert recs n rec)) (runs recs) n (λ k apart. sym (runs-insert_other recs n rec k apart)) 0 next (omega arith) (omega arith) (runs-insert_same recs n rec ∙ off) on)

-- a new REC that does not run leaves the number of running RECs as it was
pub running-new : (recs : FinMap nat_cmp RecRow) (next : ℕ) (rec : RecRow) → is_rec_running (Some rec) ≡ false → running (insert recs next rec) (next + 1) ≡ running recs next
running-new recs next rec off =
    ap length (
    ap (filter (runs (insert recs next rec))) (range_with_len_more 0 next (0 + next) refl)
    ∙ filter-append (runs (insert recs next rec)) (range_with_len 0 next) ((0 + next) ∷ [])
    ∙ (λ i. same 0 next (omega arith) i ++ cond (last i) ((0 + next) ∷ []) [])
    ∙ append-nil (filter (runs recs) (range_with_len 0 next)))
  where
    zero_plus : (n : ℕ) → 0 + n ≡ n
    zero_plus n = omega arith

    last : runs (insert recs next rec) (0 + next) ≡ false
    last = ap (runs (insert recs next rec)) (zero_plus next) ∙ runs-insert_same recs next rec ∙ off

    same : (a m : ℕ) → a + m ≤ next → filter (runs (insert recs next rec)) (range_with_len a m) ≡ filter (runs recs) (range_with_len a m)
    same a zero low = refl
    same a (suc m) low =
        λ i. cond (runs-insert_other recs next rec a (other a m low) i) (a ∷ same (a + 1) m (omega arith) i) (same (a + 1) m (omega arith) i)
      where
        other : (a m : ℕ) → a + suc m ≤ next → a ≢ next
        other a m low e = omega arith

-- the removal of a REC that does not run leaves the number of running RECs as it was
pub running-gone : (recs : FinMap nat_cmp RecRow) (next n : ℕ) → runs recs n ≡ false → running (remove recs n) next ≡ running recs next
running-gone recs next n off = ap length (filter_agree (runs (remove recs n)) (runs recs) same (range_with_len 0 next))
  where
    same : (k : ℕ) → runs (remove recs n) k ≡ runs recs k
    same k = ap is_rec_running (get-remove nat_cmp_total recs n k)
        ∙ elim (eq_by_cmp nat_cmp k n) as (λ t. eq_by_cmp nat_cmp k n ≡ t → is_rec_running (cond t None (get recs k)) ≡ runs recs k) [
          | true ↦ λ e. sym (ap (runs recs) (nat_place k n e) ∙ off)
          | false ↦ λ e. refl
        ] refl

-- the number of running RECs is 0 if there is no REC
pub running-none : (recs : FinMap nat_cmp RecRow) (next : ℕ) → ((n : ℕ) → get recs n ≡ None) → running recs next ≡ 0
running-none recs next none = none_pass (runs recs) (range_with_len 0 next) (λ n. ap is_rec_running (none n))

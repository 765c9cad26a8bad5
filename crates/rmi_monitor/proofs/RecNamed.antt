-- The proof that a search of the machine for the REC in a granule finds that REC if and only if the granule holds one.
use Rattle.std.proofs.Common.{◌≡◌, ℕ, ◌+◌, zero, suc, ◌<◌, ◌≤◌, Bool, true, false, cond, List, [], ◌∷◌, length, Option, Some, None, option_map, refl, sym, ap, ◌∙◌, arith, ◌⊎◌, inl, inr, ⊎_elim}
use Rattle.std.specs.Prelude.{◌==◌, ◌||◌, is_some, option_and_then}
use Rattle.std.specs.List.{find, list_any, range_with_len}
use Rattle.std.specs.Ordering.{nat_cmp, eq_by_cmp}
use Rattle.std.specs.FinMap.{get, keys, contains_key-keys}
use Rattle.std.proofs.lemmas.Bool.{eqb-true, eq-eqb, cases_lt}
use Rattle.std.proofs.lemmas.List.{get_or_past}
use Rattle.std.proofs.lemmas.Option.{same_Some, none-some}
use Rattle.realm_model.specs.Machine.{Cell, Machine, RealmRow, RecRow, cell_at, blank}
use Rattle.realm_model.proofs.Maps.{nat_place}
use Rattle.rmi_monitor.specs.View.{IsRec}
use Rattle.rmi_monitor.specs.Named.{is_rec_at, numbers_in, number_in, rec_named}
use Rattle.rmi_monitor.proofs.Comparisons.{some_map}

-- ---- the result of a search

true-false : true ≡ false → ⊥
true-false e = cc

find_some : {A : Type 0} (test : A → Bool) (xs : List A) (x : A) → find test xs ≡ Some x → test x ≡ true
find_some test [] x e = cc
find_some test (y ∷ ys) x e = elim (test y) as (λ b. test y ≡ b → cond b (Some y) (find test ys) ≡ Some x → test x ≡ true) [
  | true ↦ λ h is. ap test (sym (same_Some y x is)) ∙ h
  | false ↦ λ h is. find_some test ys x is
] refl e

-- a search of a list finds a number, if a number in the list passes the test
find_has : (test : ℕ → Bool) (ks : List ℕ) (k : ℕ) → list_any (eq_by_cmp nat_cmp k) ks ≡ true → test k ≡ true → is_some (find test ks) ≡ true
find_has test [] k any passes = cc
find_has test (q ∷ ks) k any passes = elim (test q) as (λ b. test q ≡ b → is_some (cond b (Some q) (find test ks)) ≡ true) [
  | true ↦ λ h. refl
  | false ↦ λ h. elim (eq_by_cmp nat_cmp k q) as (λ b. eq_by_cmp nat_cmp k q ≡ b → (b || list_any (eq_by_cmp nat_cmp k) ks) ≡ true → is_some (find test ks) ≡ true) [
    | true ↦ λ same some. absurd (true-false (sym passes ∙ ap test (nat_place k q same) ∙ h))
    | false ↦ λ other some. find_has test ks k some passes
  ] refl any
] refl

from_next : (first i : ℕ) → first ≤ i → (first + 1 ≤ i) ⊎ (i ≡ first)
from_next first i low = ⊎_elim (λ lt. inl (omega arith)) (λ ge. inr (omega arith)) (cases_lt first i)

range_has : (test : ℕ → Bool) (first count i : ℕ) → first ≤ i → i < first + count → test i ≡ true → is_some (find test (range_with_len first count)) ≡ true
range_has test first zero i low high passes = absurd (omega arith)
range_has test first (suc count) i low high passes = elim (test first) as (λ b. test first ≡ b → is_some (cond b (Some first) (find test (range_with_len (first + 1) count))) ≡ true) [
  | true ↦ λ h. refl
  | false ↦ λ h. ⊎_elim (λ above. range_has test (first + 1) count i above (omega arith) passes) (λ same. absurd (true-false (sym passes ∙ ap test same ∙ h))) (from_next first i low)
] refl

-- ---- the REC that a granule is

abbrev paired : ℕ → ℕ → ℕ × ℕ
paired rd number = (rd, number)

abbrev named_in : Machine → ℕ → ℕ → Option (ℕ × ℕ)
named_in machine granule rd = option_map (paired rd) (number_in machine granule rd)

module _ (machine : Machine) (granule rd number : ℕ) where
  -- a granule that holds the realm's REC with a number passes the test for that realm and number
  tests : IsRec machine rd number granule → is_rec_at machine granule rd number ≡ true
  unfolding is_rec_at
  tests is =
      ap (λ o. elim o [ Some rec ↦ rec.granule == granule | None ↦ false ]) (ap (option_and_then (λ (realm : RealmRow). get realm.recs number)) is.there ∙ is.numbered)
      ∙ eq-eqb is.rec.granule granule is.is

  tested : is_rec_at machine granule rd number ≡ true → IsRec machine rd number granule
  unfolding is_rec_at
  tested e = by (cell_at machine rd).descriptor refl e
    where
      at : (realm : RealmRow) → (cell_at machine rd).descriptor ≡ Some realm → (o : Option RecRow) → get realm.recs number ≡ o
          → elim o [ Some rec ↦ rec.granule == granule | None ↦ false ] ≡ true → IsRec machine rd number granule
      at realm there (Some rec) numbered is = record { realm = realm; there = there; rec = rec; numbered = numbered; is = eqb-true rec.granule granule is }
      at realm there None numbered is = cc

      by : (o : Option RealmRow) → (cell_at machine rd).descriptor ≡ o
          → elim (option_and_then (λ (realm : RealmRow). get realm.recs number) o) [ Some rec ↦ rec.granule == granule | None ↦ false ] ≡ true
          → IsRec machine rd number granule
      by (Some realm) there is = at realm there (get realm.recs number) refl is
      by None there is = cc

  -- the number of a REC is among the REC numbers of its realm
  listed : IsRec machine rd number granule → list_any (eq_by_cmp nat_cmp number) (numbers_in machine rd) ≡ true
  unfolding numbers_in
  listed is =
      ap (λ o. list_any (eq_by_cmp nat_cmp number) (elim o [ Some realm ↦ keys realm.recs | None ↦ [] ])) is.there
      ∙ sym (contains_key-keys is.realm.recs number) ∙ ap is_some is.numbered

  inside : IsRec machine rd number granule → rd < length machine
  inside is = ⊎_elim (λ h. h) (λ h. absurd (none-some is.realm (sym (ap (λ (c : Cell). c.descriptor) (get_or_past machine rd blank h)) ∙ is.there))) (cases_lt rd (length machine))

  -- a REC that the search finds is the one that the granule holds
  pub named_some : rec_named machine granule ≡ Some (rd, number) → IsRec machine rd number granule
  unfolding rec_named number_in
  named_some e = by (find (λ r. is_some (number_in machine granule r)) (range_with_len 0 (length machine))) e
    where
      by : (o : Option ℕ) → option_and_then (named_in machine granule) o ≡ Some (rd, number) → IsRec machine rd number granule
      by (Some r) is =
          let found = some_map (paired r) (number_in machine granule r) (rd, number) is in
          let realm : r ≡ rd = ap (λ p. p.0) found.2 in
          let same : found.0 ≡ number = ap (λ p. p.1) found.2 in
          tested (sym (λ i. is_rec_at machine granule (realm i) (same i)) ∙ find_some (is_rec_at machine granule r) (numbers_in machine r) found.0 found.1)
      by None is = cc

-- if the search finds none, the granule is no REC
pub named_none : (machine : Machine) (granule : ℕ) → rec_named machine granule ≡ None → (rd number : ℕ) → ¬ (IsRec machine rd number granule)
unfolding rec_named number_in
named_none machine granule e rd number is =
    let below : rd < length machine = inside machine granule rd number is in
    by (find has (range_with_len 0 (length machine))) e (range_has has 0 (length machine) rd (omega arith) (omega (arith, below)) here) (λ r at. find_some has (range_with_len 0 (length machine)) r at)
  where
    has : ℕ → Bool
    has r = is_some (number_in machine granule r)

    here : has rd ≡ true
    here = find_has (is_rec_at machine granule rd) (numbers_in machine rd) number (listed machine granule rd number is) (tests machine granule rd number is)

    at : (r : ℕ) (o : Option ℕ) → is_some o ≡ true → option_map (paired r) o ≡ None → ⊥
    at r (Some n) some none = cc
    at r None some none = cc

    by : (o : Option ℕ) → option_and_then (named_in machine granule) o ≡ None → is_some o ≡ true → ((r : ℕ) → o ≡ Some r → has r ≡ true) → ⊥
    by (Some r) none some passes = at r (number_in machine granule r) (passes r refl) none
    by None none some passes = cc

-- Proofs that a binary search in a list of RECs with rising numbers finds the granule of REC `number`, or nothing if
-- there is no such REC.
use Rattle.std.proofs.Common.{◌≡◌, ℕ, zero, suc, ◌+◌, ◌<◌, ◌≤◌, List, [], ◌∷◌, cond, length, get_or, Some, None, refl, sym, ap, ◌∙◌, arith}
use Rattle.std.proofs.lemmas.Bool.{eq-eqb, ne_eqb}
use Rattle.realm_model.specs.RecsOpen.{granule_in, number_at, IsRising}
use Rattle.realm_model.proofs.RecLists.{not_found}

-- each REC before index `low` has a number below `number`, and each REC from index `high` on has a number above it
pub record IsBetween (recs : List (ℕ × ℕ)) (number low high : ℕ) : Type 0 where
  pub order : low ≤ high
  pub inside : high ≤ length recs
  pub above : (i : ℕ) → i < low → number_at recs i < number
  pub below : (i : ℕ) → high ≤ i → i < length recs → number < number_at recs i

-- the index `i` is less than `place`, equal to `place`, or greater than `place`
data Side (i place : ℕ) : Type 0 where
  Less : i < place → Side i place
  Same : i ≡ place → Side i place
  More : place < i → Side i place

side : (i place : ℕ) → Side i place
side zero zero = Same refl
side zero (suc place) = Less (omega arith)
side (suc i) zero = More (omega arith)
side (suc i) (suc place) = elim (side i place) [
  | Less less ↦ Less (omega arith)
  | Same same ↦ Same (ap suc same)
  | More more ↦ More (omega arith)
]

-- once the search has no index left between `low` and `high`, the list has no REC with the number `number`
pub none_between : (recs : List (ℕ × ℕ)) (number low high : ℕ) → IsBetween recs number low high → high ≤ low → granule_in recs number ≡ None
none_between recs number low high between met = not_found recs number (λ i inside same. elim (side i low) [
  | Less less ↦ let under = between.above i less in absurd (omega (arith, under, same))
  | Same here ↦ let over = between.below i (omega arith) inside in absurd (omega (arith, over, same))
  | More more ↦ let over = between.below i (omega arith) inside in absurd (omega (arith, over, same))
])

-- the element at an index inside a list does not depend on the default value of the lookup
defaults : (recs : List (ℕ × ℕ)) (place : ℕ) (d e : ℕ × ℕ) → place < length recs → get_or recs place d ≡ get_or recs place e
defaults [] place d e inside = absurd (omega arith)
defaults (r ∷ recs) zero d e inside = refl
defaults (r ∷ recs) (suc place) d e inside = defaults recs place d e (omega arith)

-- in a list of RECs with rising numbers, a search for a REC's number finds that REC's granule
pub found_there : (recs : List (ℕ × ℕ)) (place : ℕ) (rec d : ℕ × ℕ) → IsRising recs → place < length recs → rec ≡ get_or recs place d → granule_in recs rec.0 ≡ Some rec.1
found_there [] place rec d rising inside is = absurd (omega arith)
found_there (r ∷ recs) zero rec d rising inside is =
    ap (λ (x : ℕ × ℕ). granule_in (r ∷ recs) x.0) is ∙ ap (λ t. cond t (Some r.1) (granule_in recs r.0)) (eq-eqb r.0 r.0 refl) ∙ sym (ap (λ (x : ℕ × ℕ). Some x.1) is)
found_there (r ∷ recs) (suc place) rec d rising inside is =
    let less : number_at (r ∷ recs) 0 < number_at (r ∷ recs) (suc place) = rising 0 (suc place) (omega arith) inside in
    let within : place < length recs = omega arith in
    let at : rec.0 ≡ number_at recs place = ap (λ (x : ℕ × ℕ). x.0) (is ∙ defaults recs place d (0, 0) within) in
    ap (λ t. cond t (Some r.1) (granule_in recs rec.0)) (ne_eqb r.0 rec.0 (λ e. absurd (omega (arith, less, at, e))))
    ∙ found_there recs place rec d (λ i j lt in_j. rising (suc i) (suc j) (omega arith) (omega arith)) within is

-- if the REC at index `place` has a number below `number`, `IsBetween` still holds once `low` is `place + 1`
module _ (recs : List (ℕ × ℕ)) (number low high place : ℕ) (rec d : ℕ × ℕ) (rising : IsRising recs) (between : IsBetween recs number low high)
    (from : low ≤ place) (to : place < high) (is : rec ≡ get_or recs place d) where
  at_place : number_at recs place ≡ rec.0
  at_place = sym (ap (λ (x : ℕ × ℕ). x.0) (is ∙ defaults recs place d (0, 0) (let inside = between.inside in omega arith)))

  pub upper_half : (next : ℕ) → next ≡ place + 1 → rec.0 < number → IsBetween recs number next high
  upper_half next next_is under =
      let inside = between.inside in
      let at = at_place in
      record {
        order = omega arith;
        inside = between.inside;
        above = λ i less. elim (side i place) [
          | Less before ↦ let lower = rising i place before (omega arith) in omega (arith, lower, at, under)
          | Same here ↦ let same = ap (number_at recs) here in omega (arith, same, at, under)
          | More after ↦ absurd (omega arith)
        ];
        below = between.below;
      }

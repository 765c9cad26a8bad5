-- Lemmas on what a look-up by number finds in a list of RECs, and on lists with rising numbers, when the last REC is
-- added or removed.
use Rattle.std.proofs.Common.{◌≡◌, ℕ, zero, suc, ◌+◌, ◌<◌, ◌==◌, true, false, cond, List, [], ◌∷◌, ◌++◌, length, Option, Some, None, refl, sym, ap, ◌∙◌, subst, arith, ⊎_elim}
use Rattle.std.specs.Prelude.{is_some}
use Rattle.std.proofs.lemmas.Bool.{cases_eq, eq-eqb, ne_eqb}
use Rattle.std.proofs.lemmas.List.{get_or_append_left, get_or-append-add, length-append}
use Rattle.realm_model.specs.RecsOpen.{granule_in, number_at, IsRising}

-- the granule of REC `m` in a list that ends with REC `number`, given the granule of REC `m` in the rest of the list
abbrev pub or_last : Option ℕ → ℕ → ℕ → ℕ → Option ℕ
or_last (Some g) number granule m = Some g
or_last None number granule m = cond (number == m) (Some granule) None

pub granule_in-push : (recs : List (ℕ × ℕ)) (number granule m : ℕ) → granule_in (recs ++ (number, granule) ∷ []) m ≡ or_last (granule_in recs m) number granule m
granule_in-push [] number granule m = refl
granule_in-push (rec ∷ recs) number granule m =
    elim (rec.0 == m) as (λ t. cond t (Some rec.1) (granule_in (recs ++ (number, granule) ∷ []) m) ≡ or_last (cond t (Some rec.1) (granule_in recs m)) number granule m) [
      | true ↦ refl
      | false ↦ granule_in-push recs number granule m
    ]

or_last_other : (o : Option ℕ) (number granule m : ℕ) → (number == m) ≡ false → or_last o number granule m ≡ o
or_last_other (Some g) number granule m other = refl
or_last_other None number granule m other = ap (λ t. cond t (Some granule) None) other

pub push_other : (recs : List (ℕ × ℕ)) (number granule m : ℕ) → (m ≡ number → ⊥) → granule_in (recs ++ (number, granule) ∷ []) m ≡ granule_in recs m
push_other recs number granule m other =
    granule_in-push recs number granule m ∙ or_last_other (granule_in recs m) number granule m (ne_eqb number m (λ e. other (sym e)))

pub push_same : (recs : List (ℕ × ℕ)) (number granule : ℕ) → granule_in recs number ≡ None → granule_in (recs ++ (number, granule) ∷ []) number ≡ Some granule
push_same recs number granule none =
    granule_in-push recs number granule number
    ∙ ap (λ o. or_last o number granule number) none
    ∙ ap (λ t. cond t (Some granule) None) (eq-eqb number number refl)

-- `granule_in` finds each number that is in the list
pub found_at : (recs : List (ℕ × ℕ)) (i : ℕ) → i < length recs → is_some (granule_in recs (number_at recs i)) ≡ true
found_at [] i inside = absurd (omega arith)
found_at (rec ∷ recs) zero inside = ap (λ t. is_some (cond t (Some rec.1) (granule_in recs rec.0))) (eq-eqb rec.0 rec.0 refl)
found_at (rec ∷ recs) (suc i) inside = elim (rec.0 == number_at recs i) as (λ t. is_some (cond t (Some rec.1) (granule_in recs (number_at recs i))) ≡ true) [
  | true ↦ refl
  | false ↦ found_at recs i (omega arith)
]

-- `granule_in` gives None for a number that is not in the list
pub not_found : (recs : List (ℕ × ℕ)) (number : ℕ) → ((i : ℕ) → i < length recs → number_at recs i ≡ number → ⊥) → granule_in recs number ≡ None
not_found [] number never = refl
not_found (rec ∷ recs) number never =
    ap (λ t. cond t (Some rec.1) (granule_in recs number)) (ne_eqb rec.0 number (λ e. never 0 (omega arith) e))
    ∙ not_found recs number (λ i inside e. never (suc i) (omega arith) e)

-- ---- rising numbers

long : (recs : List (ℕ × ℕ)) (rec : ℕ × ℕ) → length (recs ++ rec ∷ []) ≡ length recs + 1
long recs rec = length-append recs (rec ∷ [])

before_last : (recs : List (ℕ × ℕ)) (rec : ℕ × ℕ) (i : ℕ) → i < length recs → number_at (recs ++ rec ∷ []) i ≡ number_at recs i
before_last recs rec i inside = ap (λ (r : ℕ × ℕ). r.0) (get_or_append_left recs (rec ∷ []) (0, 0) i inside)

at_last : (recs : List (ℕ × ℕ)) (rec : ℕ × ℕ) (i : ℕ) → i ≡ length recs → number_at (recs ++ rec ∷ []) i ≡ rec.0
at_last recs rec i is =
    let place : i ≡ length recs + 0 = omega arith in
    ap (number_at (recs ++ rec ∷ [])) place ∙ ap (λ (r : ℕ × ℕ). r.0) (get_or-append-add recs (rec ∷ []) 0 (0, 0))

pub rising_push : (recs : List (ℕ × ℕ)) (rec : ℕ × ℕ) → IsRising recs → ((i : ℕ) → i < length recs → number_at recs i < rec.0) → IsRising (recs ++ rec ∷ [])
rising_push recs rec rising below i j less inside =
    let count = long recs rec in
    ⊎_elim
    (λ last. subst (λ n. n < number_at (recs ++ rec ∷ []) j) (sym (before_last recs rec i (omega arith)))
    (subst (λ n. number_at recs i < n) (sym (at_last recs rec j last)) (below i (omega arith))))
    (λ earlier. subst (λ n. n < number_at (recs ++ rec ∷ []) j) (sym (before_last recs rec i (omega arith)))
    (subst (λ n. number_at recs i < n) (sym (before_last recs rec j (omega arith))) (rising i j less (omega arith))))
    (cases_eq j (length recs))

pub rising_pop : (recs : List (ℕ × ℕ)) (rec : ℕ × ℕ) → IsRising (recs ++ rec ∷ []) → IsRising recs
rising_pop recs rec rising i j less inside =
    let count = long recs rec in
    subst (λ n. n < number_at recs j) (before_last recs rec i (omega arith))
    (subst (λ n. number_at (recs ++ rec ∷ []) i < n) (before_last recs rec j inside) (rising i j less (omega arith)))

-- if the numbers in a list rise, the last number is not among the numbers before it
pub last_is_new : (recs : List (ℕ × ℕ)) (number granule : ℕ) → IsRising (recs ++ (number, granule) ∷ []) → granule_in recs number ≡ None
last_is_new recs number granule rising = not_found recs number (λ i inside same.
    let count = long recs (number, granule) in
    let less = rising i (length recs) inside (omega arith) in
    let low = before_last recs (number, granule) i inside in
    let high = at_last recs (number, granule) (length recs) refl in
    absurd (omega (arith, less, low, high, same)))

-- Proofs that removing the leading zeros from a list of digits leaves the decimal digits of the number that the list
-- represents.
use Rattle.std.proofs.Common.{◌≡◌, ℕ, zero, suc, ◌+◌, ◌*◌, ◌^◌, ◌/◌, ◌%◌, ◌<◌, ◌≤◌, ◌==◌, Bool, true, false, cond, List, [], ◌∷◌, ◌++◌, length, map, reverse, take, get_or, add-one, All, refl, sym, ap, subst, ◌∙◌, arith}
use Rattle.std.specs.Str.{bytes_eq}
use native.Mathlib.Nat.{pow-succ'}
use Rattle.std.proofs.Math.Nat.{le-mul_of_pos_right}
use Rattle.std.proofs.Math.Seq.{take-suc}
use Rattle.std.proofs.lemmas.List.{length-take-le}
use Rattle.std.proofs.lemmas.Bool.{eqb-true, eqb-false, eq-eqb, ne_eqb, false≢true}
use Rattle.std.proofs.lemmas.List.Elements.{All-take}
use Rattle.std.proofs.lemmas.Slice.Eq.{bytes_eq-Decides}
use Rattle.schedule_graph.specs.Number.{number_of, trimmed, digits_of, numeral}
use Rattle.schedule_graph.proofs.Numbers.{number_of-push}

-- ---- the number stays

pub number_of-trimmed : (digits : List ℕ) → number_of (trimmed digits) ≡ number_of digits
unfolding number_of
number_of-trimmed [] = refl
number_of-trimmed (d ∷ digits) = at (number_of-trimmed digits) (number_of (d ∷ digits) == 0) refl
  where
    at : number_of (trimmed digits) ≡ number_of digits → (t : Bool) → (number_of (d ∷ digits) == 0) ≡ t → number_of (cond t [] (d ∷ trimmed digits)) ≡ number_of (d ∷ digits)
    at rest true none = sym (eqb-true (number_of (d ∷ digits)) 0 none)
    at rest false some = ap (λ n. d + 10 * n) rest

pub trimmed_none : (digits : List ℕ) → (length (trimmed digits) == 0) ≡ (number_of digits == 0)
unfolding number_of
trimmed_none [] = refl
trimmed_none (d ∷ digits) = elim (number_of (d ∷ digits) == 0) as (λ t. (length (cond t [] (d ∷ trimmed digits)) == 0) ≡ t) [
  | true ↦ refl
  | false ↦ ne_eqb (length (d ∷ trimmed digits)) 0 (λ e. omega (arith, e))
]

-- ---- they are the digits of the number

lowest : (d m : ℕ) → d < 10 → (d + 10 * m) % 10 ≡ d
lowest d m small = omega arith

others : (d m : ℕ) → d < 10 → (d + 10 * m) / 10 ≡ m
others d m small = omega arith

pub trimmed_is : (digits : List ℕ) (most : ℕ) → All (λ digit. digit < 10) digits → number_of digits ≤ most → trimmed digits ≡ digits_of most (number_of digits)
unfolding number_of
trimmed_is [] zero small few = refl
trimmed_is [] (suc most) small few = refl
trimmed_is (d ∷ digits) most small few = at (λ m below. trimmed_is digits m rest below) (number_of (d ∷ digits) == 0) refl most few
  where
    first : d < 10
    first = small 0 0 (omega arith)

    rest : All (λ digit. digit < 10) digits
    rest = λ k e below. small (suc k) e (omega (arith, below))

    at : ((m : ℕ) → number_of digits ≤ m → trimmed digits ≡ digits_of m (number_of digits))
        → (t : Bool) → (number_of (d ∷ digits) == 0) ≡ t → (most : ℕ) → number_of (d ∷ digits) ≤ most → cond t [] (d ∷ trimmed digits) ≡ digits_of most (number_of (d ∷ digits))
    at more_digits true none zero few = refl
    at more_digits true none (suc most) few = sym (ap (λ t. cond t [] (number_of (d ∷ digits) % 10 ∷ digits_of most (number_of (d ∷ digits) / 10))) none)
    at more_digits false some zero few = absurd (eqb-false (number_of (d ∷ digits)) 0 some (omega (arith, few)))
    at more_digits false some (suc most) few =
        let more = eqb-false (number_of (d ∷ digits)) 0 some in
        let below : number_of digits ≤ most = fits (number_of digits) most few more in
        ap (λ ds. d ∷ ds) (more_digits most below)
        ∙ (λ i. sym (lowest d (number_of digits) first) i ∷ digits_of most (sym (others d (number_of digits) first) i))
        ∙ sym (ap (λ t. cond t [] (number_of (d ∷ digits) % 10 ∷ digits_of most (number_of (d ∷ digits) / 10))) some)
      where
        fits : (m most : ℕ) → d + 10 * m ≤ suc most → (d + 10 * m ≡ 0 → ⊥) → m ≤ most
        fits zero most few more = omega arith
        fits (suc m) most few more = omega (arith, few)

-- ---- the end of the digits

pow_positive : (k : ℕ) → 1 ≤ 10 ^ k
pow_positive zero = omega arith
pow_positive (suc k) = (let below = pow_positive k in let up = pow-succ' 10 k in omega (arith, below, up))

pub take_trimmed : (digits : List ℕ) → take (length (trimmed digits)) digits ≡ trimmed digits
take_trimmed [] = refl
take_trimmed (d ∷ digits) = elim (number_of (d ∷ digits) == 0) as (λ t. take (length (cond t [] (d ∷ trimmed digits))) (d ∷ digits) ≡ cond t [] (d ∷ trimmed digits)) [
  | true ↦ refl
  | false ↦ ap (λ ds. d ∷ ds) (take_trimmed digits)
]

-- appending a zero does not change how many digits remain when the zeros at the end are removed
pub trimmed-zero : (digits : List ℕ) → length (trimmed (digits ++ 0 ∷ [])) ≡ length (trimmed digits)
unfolding number_of
trimmed-zero [] = refl
trimmed-zero (d ∷ digits) =
    ap (λ n. length (cond (n == 0) [] (d ∷ trimmed (digits ++ 0 ∷ [])))) (same_number (d ∷ digits))
    ∙ (elim (number_of (d ∷ digits) == 0) as (λ t. length (cond t [] (d ∷ trimmed (digits ++ 0 ∷ []))) ≡ length (cond t [] (d ∷ trimmed digits))) [
      | true ↦ refl
      | false ↦ ap suc (trimmed-zero digits)
    ])
  where
    same_number : (ds : List ℕ) → number_of (ds ++ 0 ∷ []) ≡ number_of ds
    same_number ds = let more = number_of-push ds 0 in omega (arith, more)

-- if a digit other than 0 is appended, removing the zeros at the end removes nothing
pub trimmed-more : (digits : List ℕ) (d : ℕ) → (d ≡ 0 → ⊥) → length (trimmed (digits ++ d ∷ [])) ≡ length digits + 1
unfolding number_of
trimmed-more [] d some = ap (λ t. length (cond t [] (d ∷ []))) (ne_eqb (d + 10 * 0) 0 (λ e. some (omega (arith, e))))
trimmed-more (x ∷ digits) d some = at (trimmed-more digits d some) (number_of (x ∷ (digits ++ d ∷ [])) == 0) refl
  where
    at : length (trimmed (digits ++ d ∷ [])) ≡ length digits + 1 → (t : Bool) → (number_of (x ∷ (digits ++ d ∷ [])) == 0) ≡ t → length (cond t [] (x ∷ trimmed (digits ++ d ∷ []))) ≡ length (x ∷ digits) + 1
    at rest true none = absurd (positive (eqb-true (number_of (x ∷ (digits ++ d ∷ []))) 0 none))
      where
        above : 1 ≤ 10 ^ length (x ∷ digits)
        above = pow_positive (length (x ∷ digits))

        positive : number_of ((x ∷ digits) ++ d ∷ []) ≡ 0 → ⊥
        positive e =
            let more = number_of-push (x ∷ digits) d in
            let product = le-mul_of_pos_right d above in
            some (omega (arith, e, more, product))
    at rest false more = omega (arith, rest)

-- if the digit at `place` is 0, the first `place` and the first `place + 1` digits are equally long once trimmed
pub grown-zero : (digits : List ℕ) (place : ℕ) → place < length digits → get_or digits place 0 ≡ 0
    → length (trimmed (take (place + 1) digits)) ≡ length (trimmed (take place digits))
grown-zero digits place inside none =
    ap (λ k. length (trimmed (take k digits))) (add-one place)
    ∙ ap (λ ds. length (trimmed ds)) (take-suc digits place 0 inside)
    ∙ ap (λ d. length (trimmed (take place digits ++ d ∷ []))) none
    ∙ trimmed-zero (take place digits)

-- if the digit at `place` is not 0, removing the zeros at the end of the first `place + 1` digits removes nothing
pub grown-more : (digits : List ℕ) (place : ℕ) → place < length digits → (get_or digits place 0 ≡ 0 → ⊥) → length (trimmed (take (place + 1) digits)) ≡ place + 1
grown-more digits place inside some =
    ap (λ k. length (trimmed (take k digits))) (add-one place)
    ∙ ap (λ ds. length (trimmed ds)) (take-suc digits place 0 inside)
    ∙ trimmed-more (take place digits) (get_or digits place 0) some
    ∙ ap (λ n. n + 1) (length-take-le place digits (omega (arith, inside)))

pub small_trimmed : (digits : List ℕ) → All (λ digit. digit < 10) digits → All (λ digit. digit < 10) (trimmed digits)
small_trimmed digits small =
    subst (λ (ds : List ℕ). All (λ digit. digit < 10) ds) (take_trimmed digits) (All-take (λ digit. digit < 10) (length (trimmed digits)) digits small)

-- ---- the digits of a number are those of no other, and its text

all_digits : (digits : List ℕ) → All (λ digit. digit < 10) digits → trimmed digits ≡ digits_of (number_of digits) (number_of digits)
all_digits digits small = trimmed_is digits (number_of digits) small (omega arith)

pub same_trimmed : (digits others : List ℕ) → All (λ digit. digit < 10) digits → All (λ digit. digit < 10) others
    → bytes_eq (trimmed digits) (trimmed others) ≡ (number_of digits == number_of others)
same_trimmed digits others small small_others = at (bytes_eq (trimmed digits) (trimmed others)) refl
  where
    same_digits : number_of digits ≡ number_of others → trimmed digits ≡ trimmed others
    same_digits e = all_digits digits small ∙ ap (λ n. digits_of n n) e ∙ sym (all_digits others small_others)

    at : (t : Bool) → bytes_eq (trimmed digits) (trimmed others) ≡ t → t ≡ (number_of digits == number_of others)
    at true same =
        sym (eq-eqb (number_of digits) (number_of others) (sym (number_of-trimmed digits) ∙ ap number_of ((bytes_eq-Decides (trimmed digits) (trimmed others)).0 same) ∙ number_of-trimmed others))
    at false other =
        sym (ne_eqb (number_of digits) (number_of others) (λ e. false≢true (sym other ∙ (bytes_eq-Decides (trimmed digits) (trimmed others)).1 (same_digits e))))

pub zero_numeral : (digits : List ℕ) → (length (trimmed digits) == 0) ≡ true → numeral (number_of digits) ≡ 48 ∷ []
unfolding numeral
zero_numeral digits none =
    ap (λ t. cond t (48 ∷ []) (map (λ digit. 48 + digit) (reverse (digits_of (number_of digits) (number_of digits))))) (sym (trimmed_none digits) ∙ none)

pub more_numeral : (digits : List ℕ) → All (λ digit. digit < 10) digits → (length (trimmed digits) == 0) ≡ false
    → numeral (number_of digits) ≡ map (λ digit. 48 + digit) (reverse (trimmed digits))
unfolding numeral
more_numeral digits small some =
    ap (λ t. cond t (48 ∷ []) (map (λ digit. 48 + digit) (reverse (digits_of (number_of digits) (number_of digits))))) (sym (trimmed_none digits) ∙ some)
    ∙ ap (λ ds. map (λ digit. 48 + digit) (reverse ds)) (sym (all_digits digits small))

-- Lemmas on appending items to lists, and on conditions that all, some or no numbers of a range satisfy.
use Rattle.std.specs.Prelude.{ℕ, ◌+◌, ◌<◌, ◌≤◌, Bool, true, false, ◌&&◌, ◌||◌, List, [], ◌∷◌, ◌++◌, length, map, Option, Some, None}
use Rattle.std.proofs.Common.{◌≡◌, zero, suc, take, get_or, refl, sym, ap, ◌∙◌, subst, append_assoc, arith}
use Rattle.std.specs.List.{filter_map, cons_option, list_all, list_any, range_with_len}
use Rattle.std.proofs.lemmas.Bool.{and_from}
use Rattle.std.proofs.lemmas.List.{take_more, map_more, length-append}
use Rattle.std.proofs.lemmas.List.Elements.{filter_map-append}

-- ---- one more

pub filter_map_more : (f : ℕ → Option ℕ) (xs : List ℕ) (i d : ℕ) → i < length xs
    → filter_map f (take i xs) ++ cons_option (f (get_or xs i d)) [] ≡ filter_map f (take (i + 1) xs)
filter_map_more f xs i d inside =
    sym (filter_map-append f (take i xs) (get_or xs i d ∷ []))
    ∙ ap (filter_map f) (sym (take_more xs i d inside))

pub few_more : (old : List ℕ) (found : Option ℕ) (new : List ℕ) (n : ℕ) → new ≡ old ++ cons_option found [] → length old ≤ n → length new ≤ n + 1
few_more old None new n is few = let long = ap (λ xs. length xs) is in let both = length-append old [] in omega (arith, long, both, few)
few_more old (Some g) new n is few = let long = ap (λ xs. length xs) is in let both = length-append old (g ∷ []) in omega (arith, long, both, few)

-- appending `some` and then `rest` to a list is the same as appending `some ++ rest`
pub before : {X : Type 0} (old some rest mid new : List X) → mid ≡ old ++ some → new ≡ mid ++ rest → new ≡ old ++ (some ++ rest)
before old some rest mid new one two = two ∙ ap (λ xs. xs ++ rest) one ∙ append_assoc old some rest

-- appending a list that equals `meant` is the same as appending `meant`
pub added : {X : Type 0} (old some meant new : List X) → new ≡ old ++ some → some ≡ meant → new ≡ old ++ meant
added old some meant new is same = is ∙ ap (λ xs. old ++ xs) same

-- appending the first i values, and then the next value, is the same as appending the first i + 1 values
pub mapped_more : {Y : Type 0} (f : ℕ → Y) (xs : List ℕ) (i d : ℕ) (old mid new : List Y) → i < length xs
    → mid ≡ old ++ map f (take i xs) → (y : Y) → y ≡ f (get_or xs i d) → new ≡ mid ++ y ∷ [] → new ≡ old ++ map f (take (i + 1) xs)
mapped_more f xs i d old mid new inside so_far y is more =
    before old (map f (take i xs)) (f (get_or xs i d) ∷ []) mid new so_far (more ∙ ap (λ x. mid ++ x ∷ []) is)
    ∙ ap (λ ys. old ++ ys) (sym (map_more f xs i d inside))

-- ---- ranges

module _ (test : ℕ → Bool) where
  shifted : (first n : ℕ) (t : Bool) → ((k : ℕ) → k < suc n → test (first + k) ≡ t) → (k : ℕ) → k < n → test (first + 1 + k) ≡ t
  shifted first n t each k less = let next : first + suc k ≡ first + 1 + k = omega arith in subst (λ j. test j ≡ t) next (each (suc k) (omega arith))

  here : (first n : ℕ) (t : Bool) → ((k : ℕ) → k < suc n → test (first + k) ≡ t) → test first ≡ t
  here first n t each = let one : first + 0 ≡ first = omega arith in subst (λ j. test j ≡ t) one (each 0 (omega arith))

  pub all_range : (first n : ℕ) → ((k : ℕ) → k < n → test (first + k) ≡ true) → list_all test (range_with_len first n) ≡ true
  all_range first zero each = refl
  all_range first (suc n) each = and_from _ _ (here first n true each) (all_range (first + 1) n (shifted first n true each))

  pub none_range : (first n : ℕ) → ((k : ℕ) → k < n → test (first + k) ≡ false) → list_any test (range_with_len first n) ≡ false
  none_range first zero each = refl
  none_range first (suc n) each =
      (λ i. here first n false each i || list_any test (range_with_len (first + 1) n)) ∙ none_range (first + 1) n (shifted first n false each)

  and_false : (a b : Bool) → b ≡ false → (a && b) ≡ false
  and_false true b e = e
  and_false false b e = refl

  or_true : (a b : Bool) → b ≡ true → (a || b) ≡ true
  or_true true b e = refl
  or_true false b e = e

  pub one_fails : (first n k : ℕ) → k < n → test (first + k) ≡ false → list_all test (range_with_len first n) ≡ false
  one_fails first zero k less fails = absurd (omega arith)
  one_fails first (suc n) zero less fails =
      let one : first + 0 ≡ first = omega arith in
      ap (λ t. t && list_all test (range_with_len (first + 1) n)) (subst (λ j. test j ≡ false) one fails)
  one_fails first (suc n) (suc k) less fails =
      let next : first + suc k ≡ first + 1 + k = omega arith in
      and_false (test first) _ (one_fails (first + 1) n k (omega arith) (subst (λ j. test j ≡ false) next fails))

  pub one_holds : (first n k : ℕ) → k < n → test (first + k) ≡ true → list_any test (range_with_len first n) ≡ true
  one_holds first zero k less holds = absurd (omega arith)
  one_holds first (suc n) zero less holds =
      let one : first + 0 ≡ first = omega arith in
      ap (λ t. t || list_any test (range_with_len (first + 1) n)) (subst (λ j. test j ≡ true) one holds)
  one_holds first (suc n) (suc k) less holds =
      let next : first + suc k ≡ first + 1 + k = omega arith in
      or_true (test first) _ (one_holds (first + 1) n k (omega arith) (subst (λ j. test j ≡ true) next holds))

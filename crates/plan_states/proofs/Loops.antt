-- Lemmas on loops over a list or over the numbers below a bound. The lemmas say when a test passes for all items or for
-- none, and that a list made item by item is a map of the list.
use Rattle.std.proofs.Common.{◌≡◌, ℕ, zero, suc, ◌+◌, ◌<◌, ◌≤◌, ◌&&◌, ◌||◌, Bool, true, false, List, [], ◌∷◌, ◌++◌, map, length, get_or, take, refl, sym, subst, ap, ◌∙◌, zero-add, take_all, arith}
use Rattle.std.specs.List.{list_all, list_any, range_with_len}
use Rattle.std.proofs.lemmas.List.{map-append, take_more}
use Rattle.std.proofs.lemmas.List.Folds.{list_all_at, list_any_at, list_any_more}
use Rattle.std.proofs.lemmas.List.FromFn.{length-range_with_len, get_or-range_with_len}

module _ {X : Type 0} (test : X → Bool) (xs : List X) (i : ℕ) where
  pub all_pass : length xs ≤ i → list_all test (take i xs) ≡ true → list_all test xs ≡ true
  all_pass over before = subst (λ ys. list_all test ys ≡ true) (take_all i xs over) before

  pub none_more : (x : X) → i < length xs → x ≡ get_or xs i x → list_any test (take i xs) ≡ false → test x ≡ false → list_any test (take (i + 1) xs) ≡ false
  none_more x inside is before here = list_any_more test xs i x inside ∙ (λ j. before j || (ap test (sym is) ∙ here) j)

  pub one_passes : (x : X) → i < length xs → x ≡ get_or xs i x → test x ≡ true → list_any test xs ≡ true
  one_passes x inside is passes = list_any_at test xs i x inside (ap test (sym is) ∙ passes)

  pub none_pass : length xs ≤ i → list_any test (take i xs) ≡ false → list_any test xs ≡ false
  none_pass over before = subst (λ ys. list_any test ys ≡ false) (take_all i xs over) before

-- ---- tests of the first numbers

all_from : (test : ℕ → Bool) (a n : ℕ) → ((k : ℕ) → k < a + n → test k ≡ true) → list_all test (range_with_len a n) ≡ true
all_from test a zero all = refl
all_from test a (suc n) all = λ j. all a (omega arith) j && all_from test (a + 1) n (λ k less. all k (omega (arith, less))) j

none_from : (test : ℕ → Bool) (a n : ℕ) → ((k : ℕ) → k < a + n → test k ≡ false) → list_any test (range_with_len a n) ≡ false
none_from test a zero none = refl
none_from test a (suc n) none = λ j. none a (omega arith) j || none_from test (a + 1) n (λ k less. none k (omega (arith, less))) j

module _ (test : ℕ → Bool) (n k : ℕ) where
  number_at : k < n → get_or (range_with_len 0 n) k 0 ≡ k
  number_at less = get_or-range_with_len 0 n k 0 less ∙ zero-add k

  inside : k < n → k < length (range_with_len 0 n)
  inside less = subst (λ m. k < m) (sym (length-range_with_len 0 n)) less

  pub number_fails : k < n → test k ≡ false → list_all test (range_with_len 0 n) ≡ false
  number_fails less fails = list_all_at test (range_with_len 0 n) k 0 (inside less) (ap test (number_at less) ∙ fails)

  pub number_passes : k < n → test k ≡ true → list_any test (range_with_len 0 n) ≡ true
  number_passes less passes = list_any_at test (range_with_len 0 n) k 0 (inside less) (ap test (number_at less) ∙ passes)

  pub numbers_pass : n ≤ k → ((m : ℕ) → m < k → test m ≡ true) → list_all test (range_with_len 0 n) ≡ true
  numbers_pass over all = all_from test 0 n (λ m less. all m (omega (arith, less, over)))

  pub no_number_passes : n ≤ k → ((m : ℕ) → m < k → test m ≡ false) → list_any test (range_with_len 0 n) ≡ false
  no_number_passes over none = none_from test 0 n (λ m less. none m (omega (arith, less, over)))

-- ---- a list that is made item by item

pub map_next :
    {X Y : Type 0} (f : X → Y) (xs : List X) (i : ℕ) (d : X) (old new : List Y) → i < length xs
    → old ≡ map f (take i xs) → new ≡ old ++ f (get_or xs i d) ∷ [] → new ≡ map f (take (i + 1) xs)
map_next f xs i d old new inside before more =
    more ∙ (λ j. before j ++ f (get_or xs i d) ∷ []) ∙ sym (ap (map f) (take_more xs i d inside) ∙ map-append f (take i xs) (get_or xs i d ∷ []))

pub map_whole : {X Y : Type 0} (f : X → Y) (xs : List X) (i : ℕ) (made : List Y) → length xs ≤ i → made ≡ map f (take i xs) → made ≡ map f xs
map_whole f xs i made over before = before ∙ ap (map f) (take_all i xs over)

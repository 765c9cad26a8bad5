-- Lemmas on lists: the last element, look-ups after a write, membership, ranges of numbers, and lists without
-- duplicates.
use Rattle.std.proofs.Common.{◌≡◌, ◌≢◌, ℕ, zero, suc, ◌+◌, ◌-◌, ◌<◌, ◌≤◌, Bool, true, false, cond, ◌||◌, List, [], ◌∷◌}
use Rattle.std.proofs.Common.{◌++◌, length, set, take, drop, reverse, Option, Some, None, refl, sym, ap, ◌∙◌, arith}
use Rattle.std.specs.Prelude.{slice_get, ◌==◌}
use Rattle.std.specs.List.{last_or, list_any, list_all, range_with_len, Contains, AllPairs}
use Rattle.std.proofs.lemmas.Bool.{eqb-true, eqb-false, eq-eqb, ne_eqb, and_parts, and_from}
use Rattle.std.proofs.lemmas.Option.{same_Some, slice_get_within, get_or_from_slice_get, slice_get-get_or}
use Rattle.std.proofs.lemmas.List.{reverse-append}
use Rattle.std.proofs.lemmas.List.Folds.{list_any-append}
use Rattle.std.proofs.lemmas.Bool.Decides.{Decides-eqb}
use Rattle.std.proofs.lemmas.Map.Made.{IsDistinct-from_AllPairs}
use Rattle.std.proofs.lemmas.Map.Steps.{length-le_from_distinct_below}
use native.Mathlib.Numerals.{unary_clauses}
use Rattle.realm_model.specs.Command.Check.{are_distinct, is_in}
use Rattle.realm_model.proofs.Booleans.{or_parts, true_false, not_true}

-- ---- the last element and the rest

abbrev pub front : {A : Type 0} → List A → List A
front [] = []
front (x ∷ []) = []
front (x ∷ y ∷ ys) = x ∷ front (y ∷ ys)

abbrev pub tail : {A : Type 0} → List A → List A
tail [] = []
tail (x ∷ xs) = xs

abbrev pub head_or : {A : Type 0} → A → List A → A
head_or d [] = d
head_or d (x ∷ xs) = x

module _ {A : Type 0} where
  pub take-front : (xs : List A) → take (length xs - 1) xs ≡ front xs
  take-front [] = refl
  take-front (x ∷ []) = refl
  take-front (x ∷ y ∷ ys) = simp unary_clauses (ap (λ r. x ∷ r) (simp unary_clauses at (take-front (y ∷ ys))))

  pub front_push : (xs : List A) (x : A) → front (xs ++ x ∷ []) ≡ xs
  front_push [] a = refl
  front_push (x ∷ []) a = refl
  front_push (x ∷ y ∷ ys) a = ap (λ r. x ∷ r) (front_push (y ∷ ys) a)

  pub last_push : (o : Option A) (xs : List A) (x : A) → last_or o (xs ++ x ∷ []) ≡ Some x
  last_push o [] a = refl
  last_push o (x ∷ xs) a = last_push (Some x) xs a

  pub front_last : (xs : List A) (x : A) → last_or None xs ≡ Some x → front xs ++ x ∷ [] ≡ xs
  front_last [] x e = cc
  front_last (y ∷ []) x e = ap (λ z. z ∷ []) (sym (same_Some _ _ e))
  front_last (y ∷ z ∷ zs) x e = ap (λ r. y ∷ r) (front_last (z ∷ zs) x e)

  pub reverse_more : (xs : List A) (x : A) → reverse (x ∷ xs) ≡ reverse xs ++ x ∷ []
  reverse_more xs x = reverse-append (x ∷ []) xs

  pub last-reverse : (xs : List A) (x : A) → last_or None (reverse (x ∷ xs)) ≡ Some x
  last-reverse xs x = ap (last_or None) (reverse_more xs x) ∙ last_push None (reverse xs) x

  pub take_further : (n k m : ℕ) (xs : List A) → m ≡ n + k → take m xs ≡ take n xs ++ take k (drop n xs)
  take_further zero k m xs h = let same : m ≡ k = omega arith in ap (λ j. take j xs) same
  take_further (suc n) k zero xs h = absurd (omega arith)
  take_further (suc n) k (suc m) [] h = none k
    where
      none : (k : ℕ) → ◌≡◌ {A = List A} [] (take k [])
      none zero = refl
      none (suc k) = refl
  take_further (suc n) k (suc m) (x ∷ xs) h = ap (λ ys. x ∷ ys) (take_further n k m xs (omega arith))

  pub any_reverse : (p : A → Bool) (xs : List A) → list_any p (reverse xs) ≡ false → list_any p xs ≡ false
  any_reverse p [] h = refl
  any_reverse p (x ∷ xs) h =
      let split : (list_any p (reverse xs) || (p x || false)) ≡ false = sym (list_any-append p (reverse xs) (x ∷ [])) ∙ ap (list_any p) (sym (reverse_more xs x)) ∙ h in
      let parts = or_parts (list_any p (reverse xs)) (p x || false) split in
      λ i. (or_parts (p x) false parts.1).0 i || any_reverse p xs parts.0 i

  pub drop_front : (xs ys : List A) → drop (length xs) (xs ++ ys) ≡ ys
  drop_front [] ys = refl
  drop_front (x ∷ xs) ys = drop_front xs ys

  -- ---- look-ups

  pub slice_get_set_same : (xs : List A) (i : ℕ) (x y : A) → slice_get xs i ≡ Some y → slice_get (set xs i x) i ≡ Some x
  slice_get_set_same [] i x y e = cc
  slice_get_set_same (z ∷ xs) zero x y e = refl
  slice_get_set_same (z ∷ xs) (suc i) x y e = slice_get_set_same xs i x y e

  pub slice_get_set_other : (xs : List A) (i k : ℕ) (x : A) → k ≢ i → slice_get (set xs i x) k ≡ slice_get xs k
  slice_get_set_other [] i k x apart = refl
  slice_get_set_other (z ∷ xs) zero zero x apart = absurd (apart refl)
  slice_get_set_other (z ∷ xs) zero (suc k) x apart = refl
  slice_get_set_other (z ∷ xs) (suc i) zero x apart = refl
  slice_get_set_other (z ∷ xs) (suc i) (suc k) x apart = slice_get_set_other xs i k x (λ e. apart (ap suc e))

  pub slice_get-set : (xs : List A) (i k : ℕ) (x y : A) → slice_get xs i ≡ Some y → slice_get (set xs i x) k ≡ cond (k == i) (Some x) (slice_get xs k)
  slice_get-set xs i k x y e = elim (k == i) as (λ t. (k == i) ≡ t → slice_get (set xs i x) k ≡ cond t (Some x) (slice_get xs k)) [
    | true ↦ λ same. ap (slice_get (set xs i x)) (eqb-true k i same) ∙ slice_get_set_same xs i x y e
    | false ↦ λ other. slice_get_set_other xs i k x (eqb-false k i other)
  ] refl

  -- two lists are equal if each index has the same element in both, or none in either
  pub same_list : (xs ys : List A) → ((k : ℕ) → slice_get xs k ≡ slice_get ys k) → xs ≡ ys
  same_list [] [] h = refl
  same_list [] (y ∷ ys) h = let e = h 0 in cc
  same_list (x ∷ xs) [] h = let e = h 0 in cc
  same_list (x ∷ xs) (y ∷ ys) h = λ i. same_Some _ _ (h 0) i ∷ same_list xs ys (λ k. h (suc k)) i

-- ---- membership of numbers, as a test

pub is_in-append : (k : ℕ) (xs ys : List ℕ) → is_in k (xs ++ ys) ≡ (is_in k xs || is_in k ys)
is_in-append k xs ys = list_any-append (λ x. k == x) xs ys

pub is_in_head : (k : ℕ) (xs : List ℕ) → is_in k (k ∷ xs) ≡ true
is_in_head k xs = ap (λ t. t || is_in k xs) (eq-eqb k k refl)

pub is_in_more : (k x : ℕ) (xs : List ℕ) → is_in k xs ≡ true → is_in k (x ∷ xs) ≡ true
is_in_more k x xs e = elim (k == x) as (λ t. (t || is_in k xs) ≡ true) [ true ↦ refl | false ↦ e ]

-- if all elements of a list pass a test, each number that `is_in` finds in the list passes the test
pub all_in : (test : ℕ → Bool) (xs : List ℕ) (k : ℕ) → list_all test xs ≡ true → is_in k xs ≡ true → test k ≡ true
all_in test [] k h e = cc
all_in test (x ∷ xs) k h e =
    let parts = and_parts _ _ h in
    elim (k == x) as (λ t. (k == x) ≡ t → (t || is_in k xs) ≡ true → test k ≡ true) [
      | true ↦ λ same e. ap test (eqb-true k x same) ∙ parts.0
      | false ↦ λ same e. all_in test xs k parts.1 e
    ] refl e

pub all_from_in : (test : ℕ → Bool) (xs : List ℕ) → ((k : ℕ) → is_in k xs ≡ true → test k ≡ true) → list_all test xs ≡ true
all_from_in test [] h = refl
all_from_in test (x ∷ xs) h = and_from _ _ (h x (is_in_head x xs)) (all_from_in test xs (λ k e. h k (is_in_more k x xs e)))

pub is_in_at : (xs : List ℕ) (i k : ℕ) → slice_get xs i ≡ Some k → is_in k xs ≡ true
is_in_at [] i k h = cc
is_in_at (x ∷ xs) zero k h = ap (λ t. t || is_in k xs) (eq-eqb k x (sym (same_Some _ _ h)))
is_in_at (x ∷ xs) (suc i) k h = is_in_more k x xs (is_in_at xs i k h)

pub index_of : (xs : List ℕ) (k : ℕ) → is_in k xs ≡ true → (i : ℕ) × (slice_get xs i ≡ Some k)
index_of [] k h = cc
index_of (x ∷ xs) k h = elim (k == x) as (λ t. (k == x) ≡ t → (t || is_in k xs) ≡ true → (i : ℕ) × (slice_get (x ∷ xs) i ≡ Some k)) [
  | true ↦ λ e h. (0, ap Some (sym (eqb-true k x e)))
  | false ↦ λ e h. let rest = index_of xs k h in (suc rest.0, rest.1)
] refl h

pub Contains-from_in : (xs : List ℕ) (k : ℕ) → is_in k xs ≡ true → Contains xs k
Contains-from_in xs k e =
    let at = index_of xs k e in (at.0, slice_get_within xs at.0 k at.1, get_or_from_slice_get xs at.0 k k at.1)

pub in_from_Contains : (xs : List ℕ) (k : ℕ) → Contains xs k → is_in k xs ≡ true
in_from_Contains xs k c = is_in_at xs c.0 k (slice_get-get_or xs c.0 k c.1 ∙ ap Some c.2)

-- ---- numbers in a row

pub below_range : (k first n : ℕ) → k < first → is_in k (range_with_len first n) ≡ false
below_range k first zero less = refl
below_range k first (suc n) less =
    ap (λ t. t || is_in k (range_with_len (first + 1) n)) (ne_eqb k first (λ e. omega arith)) ∙ below_range k (first + 1) n (omega arith)

-- ---- no element twice

abbrev pub AllDistinct : List ℕ → Type 0
AllDistinct [] = Unit {0}
AllDistinct (x ∷ xs) = (is_in x xs ≡ false) × AllDistinct xs

pub AllDistinct-range : (first n : ℕ) → AllDistinct (range_with_len first n)
AllDistinct-range first zero = tt
AllDistinct-range first (suc n) = (below_range first (first + 1) n (omega arith), AllDistinct-range (first + 1) n)

pub AllDistinct-append : (xs ys : List ℕ) → AllDistinct xs → AllDistinct ys → ((k : ℕ) → is_in k xs ≡ true → is_in k ys ≡ false) → AllDistinct (xs ++ ys)
AllDistinct-append [] ys p q apart = q
AllDistinct-append (x ∷ xs) ys p q apart =
    (is_in-append x xs ys ∙ (λ i. p.0 i || apart x (is_in_head x xs) i), AllDistinct-append xs ys p.1 q (λ k e. apart k (is_in_more k x xs e)))

-- of two joined lists with no element twice, the first has none twice and shares none with the second
pub AllDistinct_parts : (xs ys : List ℕ) → AllDistinct (xs ++ ys) → AllDistinct xs × ((k : ℕ) → is_in k ys ≡ true → is_in k xs ≡ false)
AllDistinct_parts [] ys h = (tt, λ k e. refl)
AllDistinct_parts (x ∷ xs) ys h =
    let rest = AllDistinct_parts xs ys h.1 in
    let out = or_parts (is_in x xs) (is_in x ys) (sym (is_in-append x xs ys) ∙ h.0) in (
      (out.0, rest.0),
      λ k e. elim (k == x) as (λ t. (k == x) ≡ t → (t || is_in k xs) ≡ false) [
        | true ↦ λ same. absurd (true_false (is_in x ys) (ap (λ j. is_in j ys) (sym (eqb-true k x same)) ∙ e) out.1)
        | false ↦ λ other. rest.1 k e
      ] refl,
    )

-- a list that passes the test `are_distinct` has no element twice
pub AllDistinct-from_test : (xs : List ℕ) → are_distinct xs ≡ true → AllDistinct xs
AllDistinct-from_test [] h = tt
AllDistinct-from_test (x ∷ xs) h = let parts = and_parts _ _ h in (not_true _ parts.0, AllDistinct-from_test xs parts.1)

-- in a list with no element twice, the elements at any two indices differ
pub AllPairs-from_distinct : (xs : List ℕ) → AllDistinct xs → AllPairs (λ a b. a ≢ b) xs
AllPairs-from_distinct [] h i j d less within = absurd (omega arith)
AllPairs-from_distinct (x ∷ xs) h zero zero d less within = absurd (omega arith)
AllPairs-from_distinct (x ∷ xs) h zero (suc j) d less within =
    λ e. true_false _ (is_in_at xs j x (slice_get-get_or xs j d (omega arith) ∙ ap Some (sym e))) h.0
AllPairs-from_distinct (x ∷ xs) h (suc i) zero d less within = absurd (omega arith)
AllPairs-from_distinct (x ∷ xs) h (suc i) (suc j) d less within = AllPairs-from_distinct xs h.1 i j d (omega arith) (omega arith)

pub length-le_distinct : (xs : List ℕ) (n : ℕ) → AllDistinct xs → ((k : ℕ) → is_in k xs ≡ true → k < n) → length xs ≤ n
length-le_distinct xs n distinct below =
    length-le_from_distinct_below xs n (IsDistinct-from_AllPairs Decides-eqb xs (AllPairs-from_distinct xs distinct)) below

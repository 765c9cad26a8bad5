-- Lemmas on membership in mapped, filtered and concatenated lists and in ranges, and on relations between all pairs of
-- members.
use Rattle.std.proofs.Common.{◌≡◌, ℕ, zero, suc, ◌+◌, ◌<◌, ◌≤◌, ◌⊎◌, inl, inr, Bool, true, false, cond, List, [], ◌∷◌, ◌++◌, map, length, get_or, All, refl, sym, ap, subst, ◌∙◌, arith}
use Rattle.std.specs.Prelude.{AllPairs, Contains, filter}
use Rattle.std.specs.List.{flat_map, list_all, range_with_len}
use Rattle.std.proofs.lemmas.Bool.{and_parts, cases_lt}
use Rattle.std.proofs.lemmas.List.Kept.{AllPairs-cons}

abbrev pub IsIn : {X : Type 0} → X → List X → Type 0
IsIn x [] = ⊥
IsIn x (y ∷ ys) = (y ≡ x) ⊎ IsIn x ys

-- ---- joined lists

pub in_left : {X : Type 0} (x : X) (xs ys : List X) → IsIn x xs → IsIn x (xs ++ ys)
in_left x [] ys is = absurd is
in_left x (y ∷ xs) ys (inl same) = inl same
in_left x (y ∷ xs) ys (inr rest) = inr (in_left x xs ys rest)

pub in_right : {X : Type 0} (x : X) (xs ys : List X) → IsIn x ys → IsIn x (xs ++ ys)
in_right x [] ys is = is
in_right x (y ∷ xs) ys is = inr (in_right x xs ys is)

pub in_either : {X : Type 0} (x : X) (xs ys : List X) → IsIn x (xs ++ ys) → IsIn x xs ⊎ IsIn x ys
in_either x [] ys is = inr is
in_either x (y ∷ xs) ys (inl same) = inl (inl same)
in_either x (y ∷ xs) ys (inr rest) =
    elim (in_either x xs ys rest) as (λ _. IsIn x (y ∷ xs) ⊎ IsIn x ys) [ inl left ↦ inl (inr left) | inr right ↦ inr right ]

-- ---- maps

pub in_map : {X Y : Type 0} (f : X → Y) (x : X) (xs : List X) → IsIn x xs → IsIn (f x) (map f xs)
in_map f x [] is = absurd is
in_map f x (y ∷ xs) (inl same) = inl (ap f same)
in_map f x (y ∷ xs) (inr rest) = inr (in_map f x xs rest)

-- Some member of `xs` is taken to y by f.
pub record IsMadeOf {X Y : Type 0} (f : X → Y) (y : Y) (xs : List X) : Type 0 where
  pub one : X
  pub is_in : IsIn one xs
  pub made : f one ≡ y

pub of_map : {X Y : Type 0} (f : X → Y) (y : Y) (xs : List X) → IsIn y (map f xs) → IsMadeOf f y xs
of_map f y [] is = absurd is
of_map f y (x ∷ xs) (inl same) = record { one = x; is_in = inl refl; made = same }
of_map f y (x ∷ xs) (inr rest) = let it = of_map f y xs rest in record { one = it.one; is_in = inr it.is_in; made = it.made }

pub in_flat_map : {X Y : Type 0} (f : X → List Y) (x : X) (y : Y) (xs : List X) → IsIn x xs → IsIn y (f x) → IsIn y (flat_map f xs)
in_flat_map f x y [] is there = absurd is
in_flat_map f x y (z ∷ xs) (inl same) there = in_left y (f z) (flat_map f xs) (subst (λ w. IsIn y (f w)) (sym same) there)
in_flat_map f x y (z ∷ xs) (inr rest) there = in_right y (f z) (flat_map f xs) (in_flat_map f x y xs rest there)

-- Some member `one` of `xs` has y in the list `f one`.
pub record IsListedBy {X Y : Type 0} (f : X → List Y) (y : Y) (xs : List X) : Type 0 where
  pub one : X
  pub is_in : IsIn one xs
  pub there : IsIn y (f one)

pub of_flat_map : {X Y : Type 0} (f : X → List Y) (y : Y) (xs : List X) → IsIn y (flat_map f xs) → IsListedBy f y xs
of_flat_map f y [] is = absurd is
of_flat_map f y (x ∷ xs) is = elim (in_either y (f x) (flat_map f xs) is) as (λ _. IsListedBy f y (x ∷ xs)) [
  | inl here ↦ record { one = x; is_in = inl refl; there = here }
  | inr later ↦ let it = of_flat_map f y xs later in record { one = it.one; is_in = inr it.is_in; there = it.there }
]

-- ---- tests

pub in_filter : {X : Type 0} (p : X → Bool) (x : X) (xs : List X) → IsIn x xs → p x ≡ true → IsIn x (filter p xs)
in_filter p x [] is passes = absurd is
in_filter p x (y ∷ xs) (inl same) passes =
    subst (λ t. IsIn x (cond t (y ∷ filter p xs) (filter p xs))) (sym (ap p same ∙ passes)) (inl same)
in_filter p x (y ∷ xs) (inr rest) passes = elim (p y) as (λ t. IsIn x (cond t (y ∷ filter p xs) (filter p xs))) [
  | true ↦ inr (in_filter p x xs rest passes)
  | false ↦ in_filter p x xs rest passes
]

pub of_filter : {X : Type 0} (p : X → Bool) (x : X) (xs : List X) → IsIn x (filter p xs) → IsIn x xs × (p x ≡ true)
of_filter p x [] is = absurd is
of_filter p x (y ∷ xs) is =
    elim (p y) as (λ t. p y ≡ t → IsIn x (cond t (y ∷ filter p xs) (filter p xs)) → IsIn x (y ∷ xs) × (p x ≡ true)) [
      | true ↦ λ passes here. elim here as (λ _. IsIn x (y ∷ xs) × (p x ≡ true)) [
        | inl same ↦ (inl same, ap p (sym same) ∙ passes)
        | inr rest ↦ let it = of_filter p x xs rest in (inr it.0, it.1)
      ]
      | false ↦ λ fails here. let it = of_filter p x xs here in (inr it.0, it.1)
    ] refl is

-- filtering with either of two tests gives the same list if the tests agree at each member
pub filter_alike : {X : Type 0} (p q : X → Bool) (xs : List X) → ((x : X) → IsIn x xs → p x ≡ q x) → filter p xs ≡ filter q xs
filter_alike p q [] each = refl
filter_alike p q (x ∷ xs) each =
    let rest = filter_alike p q xs (λ y is. each y (inr is)) in λ i. cond (each x (inl refl) i) (x ∷ rest i) (rest i)

pub at_list_all : {X : Type 0} (p : X → Bool) (x : X) (xs : List X) → list_all p xs ≡ true → IsIn x xs → p x ≡ true
at_list_all p x [] all is = absurd is
at_list_all p x (y ∷ xs) all (inl same) = ap p (sym same) ∙ (and_parts (p y) (list_all p xs) all).0
at_list_all p x (y ∷ xs) all (inr rest) = at_list_all p x xs (and_parts (p y) (list_all p xs) all).1 rest

-- ---- ranges

pub in_range : (a n k : ℕ) → a ≤ k → k < a + n → IsIn k (range_with_len a n)
in_range a zero k above below = absurd (omega arith)
in_range a (suc n) k above below = elim (cases_lt a k) as (λ _. IsIn k (range_with_len a (suc n))) [
  | inl less ↦ inr (in_range (a + 1) n k (omega arith) (omega arith))
  | inr back ↦ inl (omega arith)
]

pub of_range : (a n k : ℕ) → IsIn k (range_with_len a n) → (a ≤ k) × (k < a + n)
of_range a zero k is = absurd is
of_range a (suc n) k (inl same) = (omega arith, omega arith)
of_range a (suc n) k (inr rest) =
    let above = (of_range (a + 1) n k rest).0 in
    let below = (of_range (a + 1) n k rest).1 in
    (omega arith, omega arith)

-- ---- by place

pub in_get_or : {X : Type 0} (xs : List X) (k : ℕ) (d : X) → k < length xs → IsIn (get_or xs k d) xs
in_get_or [] k d less = absurd (omega arith)
in_get_or (x ∷ xs) zero d less = inl refl
in_get_or (x ∷ xs) (suc k) d less = inr (in_get_or xs k d (omega arith))

pub in_contains : {X : Type 0} (x : X) (xs : List X) → Contains xs x → IsIn x xs
in_contains x xs at = subst (λ y. IsIn y xs) at.2 (in_get_or xs at.0 x at.1)

pub contains_in : {X : Type 0} (x : X) (xs : List X) → IsIn x xs → Contains xs x
contains_in x [] is = absurd is
contains_in x (y ∷ xs) (inl same) = (0, omega arith, same)
contains_in x (y ∷ xs) (inr rest) = let at = contains_in x xs rest in (suc at.0, (let h = at.1 in omega arith), at.2)

pub all_in : {X : Type 0} (P : X → Type 0) (xs : List X) → ((x : X) → IsIn x xs → P x) → All P xs
all_in P xs each = λ k d less. each (get_or xs k d) (in_get_or xs k d less)

-- ---- pairs

-- R holds of each pair of members, with the earlier one first
abbrev pub Pairs : {X : Type 0} → (X → X → Type 0) → List X → Type 0
Pairs R [] = Unit {0}
Pairs {X} R (x ∷ xs) = ((y : X) → IsIn y xs → R x y) × Pairs R xs

pub all_pairs : {X : Type 0} (R : X → X → Type 0) (xs : List X) → Pairs R xs → AllPairs R xs
all_pairs R [] all = λ i j d less inside. absurd (omega arith)
all_pairs R (x ∷ xs) all = AllPairs-cons R x xs (all_in (R x) xs all.0) (all_pairs R xs all.1)

pub pairs_append : {X : Type 0} (R : X → X → Type 0) (xs ys : List X) → Pairs R xs → Pairs R ys
    → ((x y : X) → IsIn x xs → IsIn y ys → R x y) → Pairs R (xs ++ ys)
pairs_append R [] ys one two both = two
pairs_append R (x ∷ xs) ys one two both = (
  (λ y is. elim (in_either y xs ys is) as (λ _. R x y) [ inl here ↦ one.0 y here | inr there ↦ both x y (inl refl) there ]),
  pairs_append R xs ys one.1 two (λ a b in_a in_b. both a b (inr in_a) in_b),
)

pub pairs_map : {X Y : Type 0} (R : Y → Y → Type 0) (f : X → Y) (xs : List X) → Pairs (λ a b. R (f a) (f b)) xs → Pairs R (map f xs)
pairs_map R f [] all = tt
pairs_map R f (x ∷ xs) all = (
  (λ y is. let it = of_map f y xs is in subst (λ b. R (f x) b) it.made (all.0 it.one it.is_in)),
  pairs_map R f xs all.1,
)

pub pairs_of_map : {X Y : Type 0} (R : Y → Y → Type 0) (f : X → Y) (xs : List X) → Pairs R (map f xs) → Pairs (λ a b. R (f a) (f b)) xs
pairs_of_map R f [] all = tt
pairs_of_map R f (x ∷ xs) all = ((λ y is. all.0 (f y) (in_map f y xs is)), pairs_of_map R f xs all.1)

pub pairs_weaker : {X : Type 0} (R S : X → X → Type 0) (xs : List X) → ((a b : X) → R a b → S a b) → Pairs R xs → Pairs S xs
pairs_weaker R S [] then all = tt
pairs_weaker R S (x ∷ xs) then all = ((λ y is. then x y (all.0 y is)), pairs_weaker R S xs then all.1)

pub pairs_filter : {X : Type 0} (R : X → X → Type 0) (p : X → Bool) (xs : List X) → Pairs R xs → Pairs R (filter p xs)
pairs_filter R p [] all = tt
pairs_filter R p (x ∷ xs) all = elim (p x) as (λ t. Pairs R (cond t (x ∷ filter p xs) (filter p xs))) [
  | true ↦ ((λ y is. all.0 y (of_filter p y xs is).0), pairs_filter R p xs all.1)
  | false ↦ pairs_filter R p xs all.1
]

pub pairs_range : (a n : ℕ) → Pairs (λ x y. x < y) (range_with_len a n)
pairs_range a zero = tt
pairs_range a (suc n) = ((λ y is. let above = (of_range (a + 1) n y is).0 in omega arith), pairs_range (a + 1) n)

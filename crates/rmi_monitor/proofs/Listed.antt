-- Lemmas about a property of each element of a list, about distinct elements, and about an element that is read and
-- written back.
use Rattle.std.proofs.Common.{◌≡◌, ℕ, zero, suc, ◌<◌, true, not, List, [], ◌∷◌, length, set, get_or, All, Option, Some, None, refl, sym, ap, ◌∙◌, subst, arith}
use Rattle.std.specs.Prelude.{slice_get}
use Rattle.std.proofs.lemmas.Bool.{and_parts, and_from}
use Rattle.std.proofs.lemmas.List.{set-get_or, get_or_default}
use Rattle.std.proofs.lemmas.Option.{slice_get_within, slice_get-get_or, get_or_from_slice_get}
use Rattle.realm_model.specs.Command.Check.{are_distinct, is_in}
use Rattle.realm_model.proofs.Booleans.{not_true, true_false, false_from}
use Rattle.realm_model.proofs.Lists.{is_in_at, index_of}

-- no element of a list of distinct elements is at two indexes
pub once_from_distinct : (xs : List ℕ) → are_distinct xs ≡ true → (i j a : ℕ) → slice_get xs i ≡ Some a → slice_get xs j ≡ Some a → i ≡ j
once_from_distinct [] distinct i j a h k = cc
once_from_distinct (x ∷ xs) distinct zero zero a h k = refl
once_from_distinct (x ∷ xs) distinct zero (suc j) a h k =
    absurd (true_false (is_in x xs) (is_in_at xs j x (k ∙ sym h)) (not_true (is_in x xs) (and_parts _ _ distinct).0))
once_from_distinct (x ∷ xs) distinct (suc i) zero a h k =
    absurd (true_false (is_in x xs) (is_in_at xs i x (h ∙ sym k)) (not_true (is_in x xs) (and_parts _ _ distinct).0))
once_from_distinct (x ∷ xs) distinct (suc i) (suc j) a h k = ap suc (once_from_distinct xs (and_parts _ _ distinct).1 i j a h k)

-- if no element of a list is at two indexes, its elements are distinct
pub distinct_from_once : (xs : List ℕ) → ((i j a : ℕ) → slice_get xs i ≡ Some a → slice_get xs j ≡ Some a → i ≡ j) → are_distinct xs ≡ true
distinct_from_once [] once = refl
distinct_from_once (x ∷ xs) once =
    and_from _ _
    (ap not (false_from (is_in x xs) (λ there. let found = index_of xs x there in let e : zero ≡ suc found.0 = once zero (suc found.0) x refl found.1 in omega (arith, e))))
    (distinct_from_once xs (λ i j a h k. let e : suc i ≡ suc j = once (suc i) (suc j) a h k in omega (arith, e)))

-- if a property holds at each index of a list, it holds for each number in the list
pub holds_in : (P : ℕ → Type 0) (xs : List ℕ) (x : ℕ) → All P xs → is_in x xs ≡ true → P x
holds_in P xs x each there =
    let found = index_of xs x there in
    subst P (get_or_from_slice_get xs found.0 x x found.1) (each found.0 x (slice_get_within xs found.0 x found.1))

-- if a property holds for each number in a list, it holds at each index of the list
pub each_in : (P : ℕ → Type 0) (xs : List ℕ) → ((x : ℕ) → is_in x xs ≡ true → P x) → All P xs
each_in P xs holds k d lt = holds (get_or xs k d) (is_in_at xs k (get_or xs k d) (slice_get-get_or xs k d lt))

-- the element read at an index inside a list does not depend on the default for indexes outside it
pub read_at : {A : Type 0} (xs : List A) (i place : ℕ) (d x y : A) → i ≡ place → place < length xs → x ≡ get_or xs i x → x ≡ y → get_or xs place d ≡ y
read_at xs i place d x y same inside read is = get_or_default xs place d x inside ∙ ap (λ (n : ℕ). get_or xs n x) (sym same) ∙ sym read ∙ is

-- writing an element back to the index at which it was read leaves the list unchanged
pub put_back : {A : Type 0} (xs : List A) (i : ℕ) (d x : A) → get_or xs i d ≡ x → set xs i x ≡ xs
put_back xs i d x e = ap (set xs i) (sym e) ∙ set-get_or xs i d

-- an index at which a value is found is inside the list
pub some_inside : {A : Type 0} (xs : List (Option A)) (i : ℕ) (x : A) → get_or xs i None ≡ Some x → i < length xs
some_inside [] i x e = cc
some_inside (y ∷ ys) zero x e = omega arith
some_inside (y ∷ ys) (suc i) x e = let below = some_inside ys i x e in omega (arith, below)

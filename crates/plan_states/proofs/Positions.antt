-- Lemmas on finding the index of an item that passes a test, and on the items of the vector at an index of a list.
use Rattle.std.proofs.Common.{◌≡◌, ℕ, zero, suc, ◌+◌, ◌<◌, ◌≤◌, ◌||◌, Bool, true, false, cond, List, [], ◌∷◌, map, length, get_or, take, Vec, Global, vec_items, Option, Some, None, zero-add, refl, sym, subst, ap, ◌∙◌, arith}
use Rattle.std.specs.Prelude.{is_some, slice_get, slice_index_or}
use Rattle.std.specs.List.{list_any, position, position_from}
use Rattle.std.proofs.lemmas.List.{get_or_past, length-map}
use Rattle.std.proofs.lemmas.Iterator.Adapters.{position_from-zero}
use Rattle.std.proofs.lemmas.Option.{same_Some}
use Rattle.plan_states.proofs.RunLogs.{seen_at_place}

any_from : {X : Type 0} (test : X → Bool) (i : ℕ) (xs : List X) → is_some (position_from test i xs) ≡ list_any test xs
any_from test i [] = refl
any_from test i (x ∷ xs) = elim (test x) as (λ b. is_some (cond b (Some i) (position_from test (i + 1) xs)) ≡ (b || list_any test xs)) [
  | true ↦ refl
  | false ↦ any_from test (i + 1) xs
]

-- a search finds an index in a list exactly if some item passes the test
pub position_any : {X : Type 0} (test : X → Bool) (xs : List X) → is_some (position test xs) ≡ list_any test xs
position_any test xs = ap is_some (position_from-zero test xs) ∙ any_from test 0 xs

both_false : (one other : Bool) → (one || other) ≡ false → (one ≡ false) × (other ≡ false)
both_false true other none = absurd cc
both_false false other none = (refl, none)

found_from : {X : Type 0} (test : X → Bool) (from i : ℕ) (xs : List X) (d : X)
    → i < length xs → list_any test (take i xs) ≡ false → test (get_or xs i d) ≡ true → position_from test from xs ≡ Some (from + i)
found_from test from i [] d inside none here = absurd (omega (arith, inside))
found_from test from zero (x ∷ xs) d inside none here = ap (λ b. cond b (Some from) (position_from test (from + 1) xs)) here ∙ ap Some (omega arith)
found_from test from (suc i) (x ∷ xs) d inside none here =
    let neither = both_false (test x) (list_any test (take i xs)) none in
    ap (λ b. cond b (Some from) (position_from test (from + 1) xs)) neither.0
    ∙ found_from test (from + 1) i xs d (omega (arith, inside)) neither.1 here ∙ ap Some (omega arith)

-- a search finds the index of an item that passes the test, if no item before it passes
pub position_found : {X : Type 0} (test : X → Bool) (xs : List X) (i : ℕ) (d : X)
    → i < length xs → list_any test (take i xs) ≡ false → test (get_or xs i d) ≡ true → position test xs ≡ Some i
position_found test xs i d inside none here = position_from-zero test xs ∙ found_from test 0 i xs d inside none here ∙ ap Some (zero-add i)

none_if : (found : Option ℕ) → is_some found ≡ false → found ≡ None
none_if None none = refl
none_if (Some i) none = absurd cc

pub position_none : {X : Type 0} (test : X → Bool) (xs : List X) → list_any test xs ≡ false → position test xs ≡ None
position_none test xs none = none_if (position test xs) (position_any test xs ∙ none)

items_at : {X : Type 0} (vecs : List (Vec X Global)) (k : ℕ) (it : Vec X Global) → slice_get vecs k ≡ Some it → slice_index_or (map vec_items vecs) k [] ≡ it.items
items_at [] k it there = absurd cc
items_at (vec ∷ vecs) zero it there = ap vec_items (same_Some vec it there)
items_at (vec ∷ vecs) (suc k) it there = items_at vecs k it there

-- if vectors are mapped to their items, the list at an index has the items of the vector at that index
pub items_seen : {X : Type 0} (vecs seen : List (Vec X Global)) (k : ℕ) (it : Vec X Global)
    → seen ≡ vecs → k < length seen → it ≡ get_or seen k it → slice_index_or (map vec_items vecs) k [] ≡ it.items
items_seen vecs seen k it same inside is = items_at vecs k it (seen_at_place vecs seen k it same inside is)

pub items_past : {X : Type 0} (vecs : List (Vec X Global)) (k : ℕ) → length vecs ≤ k → slice_index_or (map vec_items vecs) k [] ≡ []
items_past vecs k over = get_or_past (map vec_items vecs) k [] (subst (λ n. n ≤ k) (sym (length-map vecs vec_items)) over)

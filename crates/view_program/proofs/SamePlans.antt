-- Lemmas for the comparison of two plans: equal prefixes of two lists stay equal when equal elements follow.
use Rattle.std.proofs.Common.{◌≡◌, ℕ, ◌+◌, ◌<◌, List, [], ◌∷◌, ◌++◌, map, length, get_or, take, sym, ap, ◌∙◌}
use Rattle.std.proofs.lemmas.List.{map-append, take-map, take_more}

front_more : {X Y : Type 0} (f : X → Y) (xs : List X) (i : ℕ) (x : X) → i < length xs → x ≡ get_or xs i x → take (i + 1) (map f xs) ≡ take i (map f xs) ++ f x ∷ []
front_more f xs i x inside is =
    take-map f (i + 1) xs
    ∙ ap (map f) (take_more xs i x inside)
    ∙ map-append f (take i xs) (get_or xs i x ∷ [])
    ∙ (λ j. sym (take-map f i xs) j ++ f (sym is j) ∷ [])

-- if two lists have the same values up to an index, and at the index too, they have the same values up to the next
-- index
pub same_more : {X Y : Type 0} (f : X → Y) (xs ys : List X) (i : ℕ) (x y : X) → i < length xs → i < length ys → x ≡ get_or xs i x → y ≡ get_or ys i y
    → take i (map f xs) ≡ take i (map f ys) → f x ≡ f y → take (i + 1) (map f xs) ≡ take (i + 1) (map f ys)
same_more f xs ys i x y inside within is also before same =
    front_more f xs i x inside is ∙ (λ j. before j ++ same j ∷ []) ∙ sym (front_more f ys i y within also)

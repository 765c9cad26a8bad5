-- A proof that the last element of a list is the element at index `length - 1`.
use Rattle.std.proofs.Common.{◌≡◌, ◌-◌, suc, List, [], ◌∷◌, length, Option, Some, None, refl, ap, ◌∙◌, arith}
use Rattle.std.specs.Prelude.{slice_get}
use Rattle.std.specs.List.{last_or}

last_at : {A : Type 0} (o : Option A) (x : A) (xs : List A) → slice_get (x ∷ xs) (length xs) ≡ last_or o (x ∷ xs)
last_at o x [] = refl
last_at o x (y ∷ ys) = last_at (Some x) y ys

pub slice_get-last : {A : Type 0} (xs : List A) → slice_get xs (length xs - 1) ≡ last_or None xs
slice_get-last [] = refl
slice_get-last (x ∷ xs) =
    let e : suc (length xs) - 1 ≡ length xs = omega arith in
    ap (slice_get (x ∷ xs)) e ∙ last_at None x xs

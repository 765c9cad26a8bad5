-- Proofs that appending one part after another to a text appends the concatenation of the parts.
use Rattle.std.proofs.Common.{◌≡◌, ℕ, ◌+◌, ◌<◌, List, [], ◌∷◌, ◌++◌, length, get_or, take, append_assoc, ap, sym, ◌∙◌}
use Rattle.std.specs.List.{flat_map}
use Rattle.std.proofs.lemmas.List.{flat_map_more, take_more}

pub joined : (old a b between new : List ℕ) → between ≡ old ++ a → new ≡ between ++ b → new ≡ old ++ (a ++ b)
joined old a b between new first then = then ∙ ap (λ t. t ++ b) first ∙ append_assoc old a b

-- appending the part of the next item after the parts of the first `i` items appends the parts of the first `i + 1`
-- items
pub joined_next :
    {X : Type 0} (f : X → List ℕ) (xs : List X) (i : ℕ) (x : X) (old between new : List ℕ)
    → i < length xs → x ≡ get_or xs i x
    → between ≡ old ++ flat_map f (take i xs) → new ≡ between ++ f x → new ≡ old ++ flat_map f (take (i + 1) xs)
joined_next f xs i x old between new inside is first then =
    then ∙ ap (λ t. t ++ f x) first ∙ flat_map_more f old (take i xs) x
    ∙ ap (λ ys. old ++ flat_map f ys) (ap (λ y. take i xs ++ y ∷ []) is ∙ sym (take_more xs i x inside))

-- Proofs that an excerpt written part by part is a line of text, followed by a line of spaces and carets.
use Rattle.std.proofs.Common.{◌≡◌, ℕ, List, [], ◌∷◌, ◌++◌, ap, ◌∙◌, append_assoc}

-- an excerpt written in three parts is the beginning of a line, the rest of it with a line feed, and the carets
pub excerpt_by_parts : (one two new front back carets : List ℕ)
    → one ≡ front → two ≡ one ++ (back ++ 10 ∷ []) → new ≡ two ++ carets
    → new ≡ front ++ (back ++ 10 ∷ carets)
excerpt_by_parts one two new front back carets first second last =
    last ∙ ap (λ (t : List ℕ). t ++ carets) (second ∙ ap (λ (t : List ℕ). t ++ (back ++ 10 ∷ [])) first)
    ∙ append_assoc front (back ++ 10 ∷ []) carets ∙ ap (λ (t : List ℕ). front ++ t) (append_assoc back (10 ∷ []) carets)

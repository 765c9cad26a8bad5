-- The split of a text at the first occurrence of the byte `mark`.
use Rattle.std.specs.Prelude.{ℕ, ◌==◌, List, [], ◌∷◌, if◌then◌else◌, Option, Some, None}

-- the text before the first occurrence of the byte `mark`; the whole text if there is none
abbrev pub before_mark : ℕ → List ℕ → List ℕ
before_mark mark [] = []
before_mark mark (b ∷ bs) = if b == mark then [] else b ∷ before_mark mark bs

-- the text after the first occurrence of the byte `mark`, if there is one
abbrev pub after_mark : ℕ → List ℕ → Option (List ℕ)
after_mark mark [] = None
after_mark mark (b ∷ bs) = if b == mark then Some bs else after_mark mark bs

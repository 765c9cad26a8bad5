-- The property that each number of a list is at most the maximum at the same index of another list.
use Rattle.std.specs.Prelude.{ℕ, ◌≤◌, List, [], ◌∷◌}

-- each number is at most its maximum, and there are as many maxima as numbers
abbrev pub AreAtMost : List ℕ → List ℕ → Type 0
AreAtMost [] [] = Unit {0}
AreAtMost (n ∷ ns) (m ∷ ms) = (n ≤ m) × AreAtMost ns ms
AreAtMost _ _ = ⊥

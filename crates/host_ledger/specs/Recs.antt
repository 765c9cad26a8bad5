-- The condition that a REC number is above the numbers of all RECs in a list.
use Rattle.std.specs.Prelude.{ℕ, ◌<◌, List, length}
use Rattle.realm_model.specs.RecsOpen.{number_at}

-- the number is above the numbers of all RECs in the list
abbrev pub IsAbove : List (ℕ × ℕ) → ℕ → Type 0
IsAbove recs number = (i : ℕ) → i < length recs → number_at recs i < number

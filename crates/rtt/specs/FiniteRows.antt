-- A finite map of the rows that a function gives, by level and IPA granule.
use Rattle.std.specs.Prelude.{ℕ, zero, suc, List, [], ◌∷◌, ◌++◌, Option, Some, None}
use Rattle.std.specs.FinMap.{from_entries}
use Rattle.realm_model.specs.Rows.{Row, Rows}

-- the list `rest`, with a place and its row in front if the place has a row
unfoldable pub row_before : ℕ → ℕ → Option Row → List ((ℕ × ℕ) × Row) → List ((ℕ × ℕ) × Row)
row_before level ipa None rest = rest
row_before level ipa (Some row) rest = ((level, ipa), row) ∷ rest

-- the rows of a level at the first `n` IPA granules, each with its place
unfoldable pub rows_below : (ℕ → ℕ → Option Row) → ℕ → ℕ → List ((ℕ × ℕ) × Row)
rows_below at level zero = []
rows_below at level (suc n) = row_before level n (at level n) (rows_below at level n)

-- The map of the rows that a function gives at levels 1 to 3, for IPA granules below `space`.
unfoldable pub rows_by : ℕ → (ℕ → ℕ → Option Row) → Rows
rows_by space at = from_entries (rows_below at 1 space ++ (rows_below at 2 space ++ rows_below at 3 space))

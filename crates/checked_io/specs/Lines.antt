-- The lines of an input, split at line feeds, and the correct result of reading the next line.
use Rattle.std.specs.Prelude.{◌≡◌, ℕ, ◌<◌, ◌≤◌, ◌==◌, List, [], ◌∷◌, length, Option, Some, None, IfSome}
use Rattle.std.specs.List.{slice_split}
use Rattle.checked_io.specs.declared.lines.Next.{Next}
use Rattle.checked_io.specs.declared.lines.Next.TheVariants.{Line, TooLong, End}

-- the parts into which line feeds split a byte string
abbrev pub parts_of : List ℕ → List (List ℕ)
parts_of bytes = slice_split (λ b. b == 10) bytes

-- the last part of a split byte string, as a list of lines: the part itself, or no line if it is empty
abbrev pub last_line : List ℕ → List (List ℕ)
last_line [] = []
last_line (byte ∷ more) = (byte ∷ more) ∷ []

abbrev pub without_empty_last : List (List ℕ) → List (List ℕ)
without_empty_last [] = []
without_empty_last (part ∷ []) = last_line part
without_empty_last (part ∷ next ∷ more) = part ∷ without_empty_last (next ∷ more)

abbrev pub lines_in : List ℕ → List (List ℕ)
lines_in bytes = without_empty_last (parts_of bytes)

-- ---- the next item, if it is known what the input has left

-- if the input is known, the line that was read is the first line of the input, and the other lines remain
abbrev pub IsLine : Option (List ℕ) → List ℕ → Option (List ℕ) → Type 0
IsLine None line new = Unit {0}
IsLine (Some xs) line None = ⊥
IsLine (Some xs) line (Some ys) = lines_in xs ≡ line ∷ lines_in ys

-- the next line of the input is longer than `most`
pub record HasLongLine (most : ℕ) (bytes : List ℕ) : Type 0 where
  pub line : List ℕ
  pub more : List (List ℕ)
  pub lines : lines_in bytes ≡ line ∷ more
  pub long : most < length line

abbrev pub IsNext : ℕ → Option (List ℕ) → Next → List ℕ → Option (List ℕ) → Type 0
IsNext most old Line line new = (length line ≤ most) × IsLine old line new
IsNext most old TooLong line new = IfSome old (HasLongLine most)
IsNext most old End line new = IfSome old (λ bytes. lines_in bytes ≡ [])

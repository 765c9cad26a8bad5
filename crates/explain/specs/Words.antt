-- The lines that explain why a step is refused. The wording of the sentences is not specified.
use Rattle.std.specs.Prelude.{◌≡◌, ℕ, ◌-◌, ◌==◌, List, [], ◌∷◌, ◌++◌, codes, length, take, string_bytes, Bool, if◌then◌else◌}
use Rattle.std.specs.Fmt.{decimal}
use Rattle.std.specs.List.{flat_map}
use Rattle.explain.specs.declared.check.Check.{Check}
use Rattle.explain.specs.declared.explained.Explanation.{Explanation}

-- ---- lines

-- the line of an error or a help message; none if the message is empty
abbrev pub message_line : List ℕ → List ℕ → List ℕ
message_line kind [] = []
message_line kind (first ∷ words) = codes "    " ++ (kind ++ (codes ": " ++ (first ∷ words ++ 10 ∷ [])))

-- the line with the number of checks that passed; none if no check did
abbrev pub count_line : ℕ → List ℕ
count_line count =
    if count == 0 then [] else if count == 1 then codes "    1 earlier check passed\n"
    else codes "    " ++ (decimal count ++ codes " earlier checks passed\n")

-- the line of a check that passed, with these words
abbrev pub passed_line : List ℕ → List ℕ
passed_line words = codes "        ok: " ++ (words ++ 10 ∷ [])

-- ---- texts to which words or lines are appended

-- the new text is the old one, followed by some words
pub record AppendsWords (old new : List ℕ) : Type 0 where
  pub words : List ℕ
  pub appended : new ≡ old ++ words

-- the new text is the old one, followed by the lines of `count` checks that passed
pub record AppendsPassed (count : ℕ) (old new : List ℕ) : Type 0 where
  pub sentences : List (List ℕ)
  pub each : length sentences ≡ count
  pub appended : new ≡ old ++ flat_map passed_line sentences

-- ---- the lines of a reason

-- all checks but the last, which is the one that failed
abbrev pub earlier_checks : List Check → List Check
earlier_checks checks = take (length checks - 1) checks

-- The text is the error line, the help line, the line that counts the passed checks and, if `all` is true, a line for
-- each passed check. An empty message has no line, and no line counts zero checks.
pub record AreReasonLines (reason : Explanation) (all : Bool) (text : List ℕ) : Type 0 where
  pub sentences : List (List ℕ)
  pub each : length sentences ≡ (if all then length (earlier_checks reason.checks.items) else 0)
  pub whole :
      text ≡ message_line (codes "error") (string_bytes reason.error)
      ++ (message_line (codes "help") (string_bytes reason.help)
      ++ (count_line (length (earlier_checks reason.checks.items)) ++ flat_map passed_line sentences))

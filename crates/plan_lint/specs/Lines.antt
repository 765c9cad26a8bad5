-- Definitions of the lines that show a finding in a report, and of the line that shows a plan's size. The source is
-- given as plain text.
use Rattle.std.specs.Prelude.{◌≡◌, ℕ, ◌==◌, List, [], ◌∷◌, ◌++◌, codes, string_bytes, Option, Some, None, if◌then◌else◌}
use Rattle.std.specs.Fmt.{decimal}
use Rattle.std.specs.List.{flat_map}
use Rattle.plan_lint.specs.Shown.{plain_line, IsExcerpt}
use Rattle.plan_lint.specs.declared.finding.Finding.{Finding}
use Rattle.plan_lint.specs.declared.finding.Severity.{Severity}
use Rattle.plan_lint.specs.declared.finding.Severity.TheVariants.{Error, Warning}
use Rattle.plan_lint.specs.declared.judging.Size.{Size}

-- ---- a finding

-- the word for the severity of a finding, `error` or `warning`
abbrev pub severity_word : Severity → List ℕ
severity_word (Error fault also) = codes "error"
severity_word Warning = codes "warning"

-- the first line of a finding: the source, the numbers of the line and the column, the word for the severity, and the
-- message
abbrev pub head_line : List ℕ → ℕ → ℕ → Finding → List ℕ
head_line source line column f =
    source ++ (58 ∷ decimal line ++ (58 ∷ decimal column ++ (codes ": " ++ (severity_word f.severity ++ (codes ": " ++ plain_line (string_bytes f.words))))))

-- The text shows the finding: a first line with a position, an excerpt, and a line for each note.
pub record IsFindingText (source : List ℕ) (f : Finding) (text : List ℕ) : Type 0 where
  pub line : ℕ
  pub column : ℕ
  pub excerpt : List ℕ
  pub is_excerpt : IsExcerpt excerpt
  pub whole : text ≡ head_line source line column f ++ (excerpt ++ flat_map (λ note. plain_line (string_bytes note)) f.notes.items)

-- the text consists of the texts of the findings, one after the other
abbrev pub AreFindingTexts : List ℕ → List Finding → List ℕ → Type 0
AreFindingTexts source [] text = text ≡ []
AreFindingTexts source (f ∷ findings) text =
    (first : List ℕ) × (rest : List ℕ) × IsFindingText source f first × AreFindingTexts source findings rest × (text ≡ first ++ rest)

-- ---- a text to which a finding is appended, or several

-- the new text is the old one, followed by the text of the finding
pub record AppendsFinding (source : List ℕ) (f : Finding) (old new : List ℕ) : Type 0 where
  pub text : List ℕ
  pub is_text : IsFindingText source f text
  pub appended : new ≡ old ++ text

pub record AppendsFindings (source : List ℕ) (findings : List Finding) (old new : List ℕ) : Type 0 where
  pub lines : List ℕ
  pub of_findings : AreFindingTexts source findings lines
  pub appended : new ≡ old ++ lines

-- ---- the size of a plan

-- the plural ending of a noun for a count: nothing if the count is 1, and an `s` otherwise
abbrev pub plural : ℕ → List ℕ
plural count = if count == 1 then [] else codes "s"

abbrev pub size_text : List ℕ → Option Size → List ℕ
size_text source None = []
size_text source (Some size) =
    source ++ (codes ": " ++ (decimal size.builds ++ (codes " build" ++ (plural size.builds ++ (codes ", " ++ (decimal size.steps ++ (codes " step"
    ++ (plural size.steps ++ (codes ", " ++ (decimal size.turns ++ (codes " turn" ++ (plural size.turns ++ 10 ∷ []))))))))))))

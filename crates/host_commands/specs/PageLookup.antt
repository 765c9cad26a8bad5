-- The effect of looking up some pages of a build: their granules are appended to those found before, or the first
-- missing page is refused.
use Rattle.std.specs.Prelude.{◌≡◌, ℕ, ◌+◌, List, ◌++◌, length, Some, Result, Ok, Err}
use Rattle.host_commands.specs.declared.refusal.Refusal.{Refusal}
use Rattle.host_commands.specs.BuildsSummary.{BuildsSummary, AreGranulesOf}
use Rattle.host_commands.specs.Checks.{page_checks, first_that_holds}

-- The lookup appends the granules of the given pages to the granules found before, or refuses the first of the given
-- pages that the build lacks.
abbrev pub AreFoundNext : BuildsSummary → ℕ → List ℕ → List ℕ → Result (Unit {0}) Refusal → List ℕ → Type 0
AreFoundNext view build pages old (Ok done) new =
    (length new ≡ length old + length pages) × ((before : List ℕ) → AreGranulesOf view build before old → AreGranulesOf view build (before ++ pages) new)
AreFoundNext view build pages old (Err refusal) new =
    (before : List ℕ) → AreGranulesOf view build before old → first_that_holds (page_checks view build (before ++ pages)) ≡ Some refusal

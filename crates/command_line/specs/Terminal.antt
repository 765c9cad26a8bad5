-- The input of a program, and the error for an input file that cannot be opened.
use Rattle.std.specs.Prelude.{◌≡◌, ℕ, ◌++◌, Bool, true, false, List, codes, string_bytes, Option, Some, None}
use Rattle.command_line.specs.declared.stop.Stop.{Stop}
use Rattle.command_line.specs.declared.stop.Stop.TheVariants.{Usage, NotUtf8, Unopened, Run}
use Rattle.command_line.specs.declared.terminal.Input.{Input}
use Rattle.command_line.specs.declared.terminal.Input.TheVariants.{Standard, File}

-- the input is a file, and not standard input
abbrev pub is_file : Input → Bool
is_file (Standard stdin) = false
is_file (File file) = true

-- ---- a file that cannot be opened

-- the line names the program, the file that cannot be opened, and the reason
pub record IsUnopenedLine (program name line : List ℕ) : Type 0 where
  pub reason : List ℕ
  pub whole : line ≡ program ++ (codes ": " ++ (name ++ (codes ": " ++ reason)))

-- The program stops: the file of this name cannot be opened, and the printed line says so, or memory ran out.
abbrev pub StopsAtFile : {F : Type 0} → F → List ℕ → List ℕ → Stop F → Type 0
StopsAtFile memory program name (Unopened line) = IsUnopenedLine program name (string_bytes line)
StopsAtFile memory program name (Run fault) = fault ≡ memory
StopsAtFile memory program name (Usage error) = ⊥
StopsAtFile memory program name NotUtf8 = ⊥

-- the program stops because it cannot open its input file; standard input is always open
abbrev pub StopsAtInput : {F : Type 0} → F → List ℕ → Option (List ℕ) → Stop F → Type 0
StopsAtInput memory program None stop = ⊥
StopsAtInput memory program (Some name) stop = StopsAtFile memory program name stop

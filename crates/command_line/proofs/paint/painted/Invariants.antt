use Rattle.std.proofs.Common.{◌≡◌, ◌++◌, List, [], ℕ}
use Rattle.command_line.specs.Painted.{AddsPainted}
use Rattle.command_line.proofs.paint.painted.Given as goal

-- the text is the part painted so far, followed by the rest
abbrev pub invariant-lines : goal.invariant-lines
invariant-lines l = (seen : List ℕ) × (seen ++ l.rest ≡ l.fn.text) × AddsPainted [] seen l.out.items

use Rattle.std.specs.Prelude.{ℕ, ◌<◌}
use Rattle.build_seats.specs.Close.{Fits}
use Rattle.build_seats.proofs.close.mismatch.Given as goal

abbrev pub invariant-loop-number : goal.invariant-loop-number
invariant-loop-number g l = (lower : ℕ) → lower < l.number → Fits lower l.history l.seats

use Rattle.std.specs.Prelude.{ℕ, ◌≡◌, ◌<◌}
use Rattle.build_seats.specs.Close.{seats_of}
use Rattle.build_seats.proofs.close.missing.Given as goal

abbrev pub invariant-loop-number : goal.invariant-loop-number
invariant-loop-number g l = (lower : ℕ) → lower < l.number → seats_of lower l.seats ≡ 1

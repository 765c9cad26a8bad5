use Rattle.std.proofs.Common.{◌≡◌, ◌++◌, drop}
use Rattle.explain.specs.Explained.{up_to_failing}
use Rattle.explain.proofs.explaining.up_to_failing.Given as goal

abbrev pub invariant-loop-check : goal.invariant-loop-check
invariant-loop-check l = l.front.items ++ up_to_failing (drop l.check-index l.checks) ≡ up_to_failing l.checks

use Rattle.std.proofs.Common.{◌≡◌, ◌+◌, length}
use Rattle.rmm_trace.specs.Compare.{are_values}
use Rattle.rmm_trace.proofs.compare.are_values.Given as goal

abbrev pub invariant-values : goal.invariant-values
invariant-values l = are_values l.left l.right ≡ are_values l.initial.left l.initial.right

abbrev pub decreases-values : goal.decreases-values
decreases-values l = length l.left + length l.right

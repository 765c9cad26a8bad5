use Rattle.std.proofs.Common.{◌≡◌, length}
use Rattle.rmm_trace.specs.Compare.{are_first}
use Rattle.rmm_trace.proofs.compare.are_first.Given as goal

abbrev pub invariant-words : goal.invariant-words
invariant-words l = are_first l.left l.right ≡ are_first l.initial.left l.initial.right

abbrev pub decreases-words : goal.decreases-words
decreases-words l = length l.left

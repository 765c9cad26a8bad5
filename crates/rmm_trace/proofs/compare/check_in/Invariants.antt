use Rattle.std.proofs.Common.{◌≡◌, length}
use Rattle.rmm_trace.specs.Compare.{check_in}
use Rattle.rmm_trace.proofs.compare.check_in.Given as goal

abbrev pub invariant-words : goal.invariant-words
invariant-words l = check_in l.left ≡ check_in l.initial.left

abbrev pub decreases-words : goal.decreases-words
decreases-words l = length l.left

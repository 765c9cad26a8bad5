use Rattle.std.proofs.Common.{◌≡◌, length}
use Rattle.rmm_trace.specs.Compare.{are_parts}
use Rattle.rmm_trace.proofs.compare.are_parts.Given as goal

abbrev pub invariant-parts : goal.invariant-parts
invariant-parts l = are_parts l.are_checks_compared l.left l.ours ≡ are_parts l.are_checks_compared l.initial.left l.ours

abbrev pub decreases-parts : goal.decreases-parts
decreases-parts l = length l.left

use Rattle.std.proofs.Common.{◌≡◌, length}
use Rattle.rmm_trace.specs.Compare.{has_part}
use Rattle.rmm_trace.proofs.compare.has_part.Given as goal

abbrev pub invariant-parts : goal.invariant-parts
invariant-parts l = has_part l.are_checks_compared l.left l.part ≡ has_part l.are_checks_compared l.initial.left l.part

abbrev pub decreases-parts : goal.decreases-parts
decreases-parts l = length l.left

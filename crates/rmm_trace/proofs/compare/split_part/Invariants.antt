use Rattle.std.proofs.Common.{length}
use Rattle.rmm_trace.proofs.Compared.{InFirst}
use Rattle.rmm_trace.proofs.compare.split_part.Given as goal

abbrev pub invariant-part : goal.invariant-part
invariant-part l = InFirst l.words l.end l.left

abbrev pub decreases-part : goal.decreases-part
decreases-part l = length l.left

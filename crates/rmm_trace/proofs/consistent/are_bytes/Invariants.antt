use Rattle.std.proofs.Common.{◌≡◌}
use Rattle.rmm_trace.specs.Consistent.{are_bytes}
use Rattle.rmm_trace.proofs.consistent.are_bytes.Given as goal

abbrev pub invariant-rounds : goal.invariant-rounds
invariant-rounds l = are_bytes l.left l.word ≡ are_bytes l.initial.left l.word

abbrev pub decreases-rounds : goal.decreases-rounds
decreases-rounds l = l.left

use Rattle.std.proofs.Common.{◌-◌}
use Rattle.host_ledger.proofs.Halving.{IsBetween}
use Rattle.host_ledger.proofs.recs.Recs.granule.Given as goal

abbrev pub invariant-loop-low : goal.invariant-loop-low
invariant-loop-low l = IsBetween l.self-inside.entries.items l.fn.number l.low l.high

abbrev pub decreases-loop-low : goal.decreases-loop-low
decreases-loop-low l = l.high - l.low

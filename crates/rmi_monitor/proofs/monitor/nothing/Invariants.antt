use Rattle.std.proofs.Common.{◌≡◌, replicate, None}
use Rattle.rmi_monitor.proofs.monitor.nothing.Given as goal

abbrev pub invariant-loop-i : goal.invariant-loop-i
invariant-loop-i g l = l.places.items ≡ replicate l._i None

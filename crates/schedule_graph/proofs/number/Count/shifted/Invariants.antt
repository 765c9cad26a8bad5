use Rattle.std.proofs.Common.{◌≡◌, ◌*◌, ◌^◌}
use Rattle.schedule_graph.proofs.number.Count.shifted.Given as goal

abbrev pub invariant-loop-double : goal.invariant-loop-double
invariant-loop-double l = l.shifted ≡ l.self * 2 ^ l._double

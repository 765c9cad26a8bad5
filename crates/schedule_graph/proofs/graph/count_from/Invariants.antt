use Rattle.std.proofs.Common.{◌≡◌, take}
use Rattle.std.specs.Prelude.{sum_by}
use Rattle.schedule_graph.specs.Paths.{count_at}
use Rattle.schedule_graph.proofs.graph.count_from.Given as goal

abbrev pub invariant-loop-edge : goal.invariant-loop-edge
invariant-loop-edge g l = l.sum ≡ sum_by (λ edge. count_at l.next edge.to) (take l.edge-index l.edges)

use Rattle.std.proofs.Common.{◌≡◌, cond, take}
use Rattle.std.specs.Prelude.{sum_by}
use Rattle.schedule_graph.specs.Paths.{count_at}
use Rattle.schedule_graph.proofs.graph.count_without.Given as goal

abbrev pub invariant-loop-edge : goal.invariant-loop-edge
invariant-loop-edge g l = l.sum ≡ sum_by (λ edge. cond (g.S.LabelProperty.holds_for l.property edge.label) 0 (count_at l.next_without edge.to)) (take l.edge-index l.edges)

use Rattle.std.proofs.Common.{◌≡◌, take}
use Rattle.schedule_graph.specs.Paths.{with_count}
use Rattle.schedule_graph.proofs.graph.count_with.Given as goal

abbrev pub invariant-loop-edge : goal.invariant-loop-edge
invariant-loop-edge g l = l.sum ≡ with_count (g.S.LabelProperty.holds_for l.property) l.next l.next_with (take l.edge-index l.edges)

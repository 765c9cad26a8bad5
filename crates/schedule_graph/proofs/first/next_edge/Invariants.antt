use Rattle.std.proofs.Common.{◌≡◌, take, None}
use Rattle.std.specs.List.{find}
use Rattle.schedule_graph.specs.First.{goes_on}
use Rattle.schedule_graph.proofs.first.next_edge.Given as goal

abbrev pub invariant-loop-edge : goal.invariant-loop-edge
invariant-loop-edge g l = find (goes_on (g.S.LabelProperty.holds_for l.property) l.shown l.with_it l.without_it) (take l.edge-index l.edges) ≡ None

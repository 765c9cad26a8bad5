use Rattle.std.proofs.Common.{◌≡◌, map, take, vec_items}
use Rattle.schedule_graph.specs.Paths.{with_count}
use Rattle.schedule_graph.proofs.graph.count_paths_with.Given as goal

abbrev pub invariant-loop-edges : goal.invariant-loop-edges
invariant-loop-edges g l = l.counts.items ≡ map (λ edges. with_count (g.S.LabelProperty.holds_for l.property) l.next l.next_with (vec_items edges)) (take l.edges-index l.layer)

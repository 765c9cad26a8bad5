use Rattle.std.proofs.Common.{◌≡◌, map, take, vec_items}
use Rattle.schedule_graph.specs.Paths.{without_count}
use Rattle.schedule_graph.proofs.graph.count_paths_without.Given as goal

abbrev pub invariant-loop-edges : goal.invariant-loop-edges
invariant-loop-edges g l = l.counts.items ≡ map (λ edges. without_count (g.S.LabelProperty.holds_for l.property) l.next_without (vec_items edges)) (take l.edges-index l.layer)

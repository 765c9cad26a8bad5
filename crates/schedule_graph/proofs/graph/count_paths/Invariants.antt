use Rattle.std.proofs.Common.{◌≡◌, map, take, vec_items}
use Rattle.schedule_graph.specs.Paths.{path_count}
use Rattle.schedule_graph.proofs.graph.count_paths.Given as goal

abbrev pub invariant-loop-edges : goal.invariant-loop-edges
invariant-loop-edges g l = l.counts.items ≡ map (λ edges. path_count l.next (vec_items edges)) (take l.edges-index l.layer)

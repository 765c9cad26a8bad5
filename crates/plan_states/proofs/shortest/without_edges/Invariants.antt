use Rattle.std.proofs.Common.{◌≡◌, [], map, take, vec_items}
use Rattle.plan_states.proofs.shortest.without_edges.Given as goal

abbrev pub invariant-loop-edges : goal.invariant-loop-edges
invariant-loop-edges l = map vec_items l.bare.items ≡ map (λ edges. []) (take l._edges-index l.layer)

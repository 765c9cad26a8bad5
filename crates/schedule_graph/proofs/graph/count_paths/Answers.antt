use Rattle.std.proofs.Common.{List, ℕ, map, vec_items, slice_index_or, ap, ◌∙◌}
use Rattle.std.proofs.lemmas.List.{take_all}
use Rattle.schedule_graph.specs.Paths.{path_count}
use Rattle.schedule_graph.proofs.Counting.{counts_of_layer}
use Rattle.schedule_graph.proofs.graph.count_paths.Goals as goal

pub returns : goal.returns
returns g c = λ layers are state.
    ap (λ (counts : List ℕ). slice_index_or counts state 0)
    (c.loop-edges.invariant ∙ ap (map (λ edges. path_count c.args.next.now (vec_items edges))) (take_all c.loop-edges.edges-index c.args.layer.now c.loop-edges-test.false))
    ∙ counts_of_layer layers c.args.next.now are c.args.layer.now state

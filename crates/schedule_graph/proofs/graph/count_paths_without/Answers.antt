use Rattle.std.proofs.Common.{List, ℕ, map, vec_items, slice_index_or, ap, ◌∙◌}
use Rattle.std.proofs.lemmas.List.{take_all}
use Rattle.schedule_graph.specs.Paths.{without_count}
use Rattle.schedule_graph.proofs.Counting.{counts_without_of_layer}
use Rattle.schedule_graph.proofs.graph.count_paths_without.Goals as goal

pub returns : goal.returns
returns g c = λ layers are_without state.
    ap (λ (counts : List ℕ). slice_index_or counts state 0)
    (c.loop-edges.invariant
    ∙ ap (map (λ edges. without_count (g.S.LabelProperty.holds_for c.args.property.now) c.args.next_without.now (vec_items edges)))
    (take_all c.loop-edges.edges-index c.args.layer.now c.loop-edges-test.false))
    ∙ counts_without_of_layer (g.S.LabelProperty.holds_for c.args.property.now) layers c.args.next_without.now are_without c.args.layer.now state

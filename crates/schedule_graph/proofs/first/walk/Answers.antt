use Rattle.std.proofs.Common.{◌≡◌, ◌+◌, ◌<◌, ◌||◌, [], map, length, vec_items, sym, ap, ◌∙◌, subst, arith}
use Rattle.std.specs.Prelude.{slice_index_or}
use Rattle.std.specs.List.{find}
use Rattle.schedule_graph.specs.First.{layers_in, path_numbers_in, goes_on}
use Rattle.schedule_graph.proofs.Firsts.{IsOnWay, way_is_over, way_goes_on, way_ends, layer_in, layers_length}
use Rattle.schedule_graph.proofs.first.walk.Goals.{then-shown, else-shown}
use Rattle.schedule_graph.proofs.first.walk.Goals as goal

pub returns-in_default : goal.returns-in_default
returns-in_default g c = λ accept are_with are_without some.
    let at = c.loop-depth in
    let below : at.depth < length c.args.layers.now = omega (arith, c.loop-depth-test.true) in
    let inside : at.depth < length (layers_in c.args.layers.now) = omega (arith, below, layers_length c.args.layers.now) in
    let edges : c.edges_at-edges.result.now ≡ slice_index_or (slice_index_or (layers_in c.args.layers.now) at.depth []) at.state [] =
    c.edges_at-edges.ensures
    ∙ ap (λ l. slice_index_or (map vec_items l) at.state []) c.deref.ensures.value
    ∙ ap (λ l. slice_index_or l at.state []) (layer_in c.args.layers.now at.depth c.index-layers-depth.result below c.index-layers-depth.is) in
    way_ends (g.S.LabelProperty.holds_for c.args.property.now) accept (layers_in c.args.layers.now) (path_numbers_in c.args.with_it.now) (path_numbers_in c.args.without_it.now) are_with are_without
    at.depth at.state at.shown at.labels.items inside (at.invariant accept are_with are_without some)
    (sym (c.in_default.ensures ∙ (λ i. find (goes_on (g.S.LabelProperty.holds_for c.args.property.now) at.shown (c.numbers_at-with_next.ensures i) (c.numbers_at-without_next.ensures i)) (edges i))))

pub loop-depth-preserved : goal.loop-depth-preserved
loop-depth-preserved g c = λ accept are_with are_without some.
    let at = c.loop-depth in
    let edge = c.in-Some.edge.now in
    let below : at.depth < length c.args.layers.now = omega (arith, c.loop-depth-test.true) in
    let inside : at.depth < length (layers_in c.args.layers.now) = omega (arith, below, layers_length c.args.layers.now) in
    let edges : c.edges_at-edges.result.now ≡ slice_index_or (slice_index_or (layers_in c.args.layers.now) at.depth []) at.state [] =
    c.edges_at-edges.ensures
    ∙ ap (λ l. slice_index_or (map vec_items l) at.state []) c.deref.ensures.value
    ∙ ap (λ l. slice_index_or l at.state []) (layer_in c.args.layers.now at.depth c.index-layers-depth.result below c.index-layers-depth.is) in
    let shown_is : c.if-shown.shown ≡ (at.shown || g.S.LabelProperty.holds_for c.args.property.now edge.label) =
    elim c.if-shown.branch [
      | then-shown w ↦ w.shown-is ∙ w.if-shown.true ∙ sym (ap (λ t. t || g.S.LabelProperty.holds_for c.args.property.now edge.label) w.if-shown.true)
      | else-shown w ↦ w.shown-is ∙ w.holds_for-shown.ensures ∙ sym (ap (λ t. t || g.S.LabelProperty.holds_for c.args.property.now edge.label) w.if-shown.false)
    ] in
    let way = way_goes_on (g.S.LabelProperty.holds_for c.args.property.now) accept (layers_in c.args.layers.now) (path_numbers_in c.args.with_it.now) (path_numbers_in c.args.without_it.now) are_with are_without
    at.depth at.state at.shown at.labels.items inside (at.invariant accept are_with are_without some) edge
    (sym (c.in-Some.ensures ∙ (λ i. find (goes_on (g.S.LabelProperty.holds_for c.args.property.now) at.shown (c.numbers_at-with_next.ensures i) (c.numbers_at-without_next.ensures i)) (edges i)))) in
    subst (λ t. IsOnWay (g.S.LabelProperty.holds_for c.args.property.now) accept (layers_in c.args.layers.now) (at.depth + 1) edge.to t c.push.new.self.items) (sym shown_is)
    (subst (λ ls. IsOnWay (g.S.LabelProperty.holds_for c.args.property.now) accept (layers_in c.args.layers.now) (at.depth + 1) edge.to (at.shown || g.S.LabelProperty.holds_for c.args.property.now edge.label) ls) (sym c.in_ok-push.ensures.items) way)

pub returns : goal.returns
returns g c = λ accept are_with are_without some.
    absurd (way_is_over (g.S.LabelProperty.holds_for c.args.property.now) accept (layers_in c.args.layers.now) c.loop-depth.depth c.loop-depth.state c.loop-depth.shown c.loop-depth.labels.items
    (omega (arith, c.loop-depth-test.false, layers_length c.args.layers.now))
    (c.loop-depth.invariant accept are_with are_without some))

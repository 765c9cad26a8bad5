use Rattle.std.proofs.Common.{◌≡◌, ◌-◌, ◌<◌, [], ◌∷◌, length, map, drop, vec_items, ap, ◌∙◌, subst, arith, length-append}
use Rattle.std.specs.Prelude.{slice_index_or}
use Rattle.schedule_graph.specs.Paths.{AreCountsWithout}
use Rattle.schedule_graph.specs.First.{layers_in, path_numbers_in, shows_none}
use Rattle.schedule_graph.proofs.LayerNumbers.{next_in, more_in, all_in}
use Rattle.schedule_graph.proofs.layers.count_all_without.Goals as goal

pub loop-done-preserved : goal.loop-done-preserved
loop-done-preserved g c =
    let is = g.S.LabelProperty.holds_for c.args.property.now in
    let at = c.loop-done in
    let layers = c.args.layers.now in
    let below : at.done < length layers = omega (arith, c.loop-done-test.true) in
    let next_is : c.numbers_at-next.result.now ≡ slice_index_or (path_numbers_in at.counts.items) (at.done - 1) [] =
    c.numbers_at-next.ensures ∙ (λ i. slice_index_or (path_numbers_in (c.deref.ensures.value i)) (c.saturating_sub.ensures i) []) in
    let rest = drop (length layers - at.done) (layers_in layers) in
    let next_are : AreCountsWithout is rest c.numbers_at-next.result.now =
    next_in (shows_none is) layers at.counts.items at.done below at.invariant.0 at.invariant.1 c.numbers_at-next.result.now next_is in
    let here_are : AreCountsWithout is (map vec_items (vec_items c.index-layers-depth.result) ∷ rest) (vec_items c.in_ok-here.here) =
    subst (λ l. AreCountsWithout is (map vec_items l ∷ rest) (vec_items c.in_ok-here.here)) c.deref-in-loop-done.ensures.value (c.in_ok-here.ensures rest next_are) in (
      omega (arith, ap length c.in_ok-push.ensures.items, length-append at.counts.items (c.in_ok-here.here ∷ []), at.invariant.0),
      more_in (shows_none is) layers at.counts.items at.done below at.invariant.0 at.invariant.1 c.index-layers-depth.result c.index-layers-depth.is c.in_ok-here.here
          here_are c.push.new.self.items c.in_ok-push.ensures.items,
    )

pub returns : goal.returns
returns g c =
    all_in (shows_none (g.S.LabelProperty.holds_for c.args.property.now)) c.args.layers.now c.loop-done.counts.items c.loop-done.done c.loop-done-test.false c.loop-done.invariant.1 c.reverse.new.self.items c.reverse.ensures.items

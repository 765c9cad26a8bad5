use Rattle.std.proofs.Common.{◌≡◌, ◌+◌, ◌-◌, ◌<◌, [], ◌∷◌, length, map, drop, vec_items, ap, ◌∙◌, subst, arith, length-append}
use Rattle.std.specs.Prelude.{filter, slice_index_or}
use Rattle.schedule_graph.specs.Paths.{paths, shows, AreCounts, AreCountsWith}
use Rattle.schedule_graph.specs.First.{layers_in, path_numbers_in, any_path}
use Rattle.schedule_graph.proofs.LayerNumbers.{any_counts, next_in, more_in, all_in}
use Rattle.schedule_graph.proofs.layers.count_all_with.Goals as goal

pub loop-done-preserved : goal.loop-done-preserved
loop-done-preserved g c =
    let is = g.S.LabelProperty.holds_for c.args.property.now in
    let at = c.loop-done in
    let layers = c.args.layers.now in
    let below : at.done < length layers = omega (arith, c.loop-done-test.true) in
    let next_is : c.numbers_at-next.result.now ≡ slice_index_or (path_numbers_in at.counts.items) (at.done - 1) [] =
    c.numbers_at-next.ensures ∙ (λ i. slice_index_or (path_numbers_in (c.deref.ensures.value i)) (c.saturating_sub.ensures i) []) in
    let rest = drop (length layers - at.done) (layers_in layers) in
    let suc_depth : length layers - 1 - at.done + 1 ≡ length layers - at.done = omega (arith, below) in (
      omega (arith, ap length c.in_ok-push.ensures.items, length-append at.counts.items (c.in_ok-here.here ∷ []), at.invariant.0),
      λ are.
          let all_are : AreCounts rest c.numbers_at-all_next.result.now =
          any_counts rest c.numbers_at-all_next.result.now (λ state.
          ap (λ ns. slice_index_or ns state 0) c.numbers_at-all_next.ensures ∙ are (length layers - 1 - at.done + 1) state
          ∙ ap (λ k. length (filter any_path (paths (drop k (layers_in layers)) state))) suc_depth) in
          let next_are : AreCountsWith is rest c.numbers_at-next.result.now =
          next_in (shows is) layers at.counts.items at.done below at.invariant.0 (at.invariant.1 are) c.numbers_at-next.result.now next_is in
          let here_are : AreCountsWith is (map vec_items (vec_items c.index-layers-depth.result) ∷ rest) (vec_items c.in_ok-here.here) =
          subst (λ l. AreCountsWith is (map vec_items l ∷ rest) (vec_items c.in_ok-here.here)) c.deref-in-loop-done.ensures.value (c.in_ok-here.ensures rest all_are next_are) in
          more_in (shows is) layers at.counts.items at.done below at.invariant.0 (at.invariant.1 are) c.index-layers-depth.result c.index-layers-depth.is c.in_ok-here.here
          here_are c.push.new.self.items c.in_ok-push.ensures.items,
    )

pub returns : goal.returns
returns g c = λ are.
    all_in (shows (g.S.LabelProperty.holds_for c.args.property.now)) c.args.layers.now c.loop-done.counts.items c.loop-done.done c.loop-done-test.false (c.loop-done.invariant.1 are) c.reverse.new.self.items c.reverse.ensures.items

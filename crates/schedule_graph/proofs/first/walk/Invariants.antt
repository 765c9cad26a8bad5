use Rattle.std.proofs.Common.{◌<◌, Bool, true, []}
use Rattle.std.specs.Prelude.{slice_index_or}
use Rattle.schedule_graph.specs.First.{layers_in, path_numbers_in, ArePathNumbers}
use Rattle.schedule_graph.specs.Paths.{shows, count_at}
use Rattle.schedule_graph.proofs.Firsts.{IsOnWay}
use Rattle.schedule_graph.proofs.first.walk.Given as goal

abbrev pub invariant-loop-depth : goal.invariant-loop-depth
invariant-loop-depth g l =
    (accept : Bool → Bool)
    → ArePathNumbers (λ path. accept true) (layers_in l.layers) (path_numbers_in l.with_it)
    → ArePathNumbers (λ path. accept (shows (g.S.LabelProperty.holds_for l.property) path)) (layers_in l.layers) (path_numbers_in l.without_it)
    → 0 < count_at (slice_index_or (path_numbers_in l.without_it) 0 []) 0
    → IsOnWay (g.S.LabelProperty.holds_for l.property) accept (layers_in l.layers) l.depth l.state l.shown l.labels.items

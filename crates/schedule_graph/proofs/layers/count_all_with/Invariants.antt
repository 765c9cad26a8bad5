use Rattle.std.proofs.Common.{◌≡◌, ◌-◌, length, drop}
use Rattle.std.specs.Prelude.{reverse}
use Rattle.schedule_graph.specs.Paths.{shows}
use Rattle.schedule_graph.specs.First.{layers_in, path_numbers_in, any_path, ArePathNumbers}
use Rattle.schedule_graph.proofs.layers.count_all_with.Given as goal

abbrev pub invariant-loop-done : goal.invariant-loop-done
invariant-loop-done g l =
    (length l.counts.items ≡ l.done)
    × (ArePathNumbers any_path (layers_in l.layers) (path_numbers_in l.all)
    → ArePathNumbers (shows (g.S.LabelProperty.holds_for l.property)) (drop (length l.layers - l.done) (layers_in l.layers)) (reverse (path_numbers_in l.counts.items)))

use Rattle.std.proofs.Common.{◌≡◌, ◌-◌, length, drop}
use Rattle.std.specs.Prelude.{reverse}
use Rattle.schedule_graph.specs.First.{layers_in, path_numbers_in, shows_none, ArePathNumbers}
use Rattle.schedule_graph.proofs.layers.count_all_without.Given as goal

abbrev pub invariant-loop-done : goal.invariant-loop-done
invariant-loop-done g l =
    (length l.counts.items ≡ l.done)
    × ArePathNumbers (shows_none (g.S.LabelProperty.holds_for l.property)) (drop (length l.layers - l.done) (layers_in l.layers)) (reverse (path_numbers_in l.counts.items))

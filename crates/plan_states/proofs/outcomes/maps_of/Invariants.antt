use Rattle.std.proofs.Common.{◌≡◌, map}
use Rattle.schedule_graph.specs.First.{any_path, path_numbers_in, ArePathNumbers}
use Rattle.plan_states.specs.Tallies.{layers_of, all_added, count_of_tally, map_tally}
use Rattle.plan_states.proofs.outcomes.maps_of.Given as goal

abbrev pub invariant-loop-map : goal.invariant-loop-map
invariant-loop-map l =
    ArePathNumbers any_path (layers_of l.graph) (path_numbers_in l.all) → map count_of_tally l.maps.items ≡ all_added (map_tally l.graph) l.map

use Rattle.std.proofs.Common.{◌≡◌, map}
use Rattle.schedule_graph.specs.First.{any_path, path_numbers_in, ArePathNumbers}
use Rattle.plan_states.specs.Tallies.{layers_of, all_added, count_of_tally, end_tally}
use Rattle.plan_states.proofs.outcomes.step_ends.Given as goal

abbrev pub invariant-loop-number : goal.invariant-loop-number
invariant-loop-number l =
    ArePathNumbers any_path (layers_of l.graph) (path_numbers_in l.all) → map count_of_tally l.ends.items ≡ all_added (end_tally l.graph) l.number

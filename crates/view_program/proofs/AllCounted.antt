-- Proofs that the number of schedules counted on the graph of a plan's explored states is the number of the plan's
-- schedules.
use Rattle.std.proofs.Common.{ℕ, Bool, List, [], map, length, sym, ◌∙◌}
use Rattle.std.proofs.lemmas.List.{length-map}
use Rattle.realm_plan.specs.Plan.{Plan}
use Rattle.plan_states.specs.Exploration.{IsGraphWithin}
use Rattle.plan_states.specs.Schedules.{by_turns, HasSingleTurns, IsRuleOf, IsSchedule}
use Rattle.plan_states.specs.Tallies.{builds_of_path, paths_of, AreOutcomes}
use Rattle.plan_states.specs.declared.graph.Graph.{Graph}
use Rattle.plan_states.specs.declared.tally.Outcomes.{Outcomes}
use Rattle.plan_states.proofs.Schedules.{paths_are_schedules, paths_rise, schedule_is_found, turns_rule}
use Rattle.view_program.specs.ScheduleCount.{IsNumberOf}

pub all_counted :
    (plan : Plan) (most : ℕ) (graph : Graph) (outcomes : Outcomes) (left : List ℕ → ℕ → Bool)
    → IsGraphWithin plan most graph → AreOutcomes (length plan.builds) graph outcomes → IsRuleOf plan graph left
    → IsNumberOf (IsSchedule left []) outcomes.steps.schedule_count
all_counted plan most graph outcomes left within are rule = record {
  schedules = map builds_of_path (paths_of graph);
  each = paths_are_schedules plan graph within.whole left rule;
  rise = paths_rise plan graph within.whole;
  none_missing = schedule_is_found plan graph within.whole left rule;
  so_many = length-map (paths_of graph) builds_of_path ∙ sym are.schedule_count;
}

pub all_single :
    (plan : Plan) (most : ℕ) (graph : Graph) (outcomes : Outcomes)
    → IsGraphWithin plan most graph → AreOutcomes (length plan.builds) graph outcomes → HasSingleTurns plan
    → IsNumberOf (IsSchedule (by_turns plan) []) outcomes.steps.schedule_count
all_single plan most graph outcomes within are single =
    all_counted plan most graph outcomes (by_turns plan) within are (turns_rule plan graph within.whole single)

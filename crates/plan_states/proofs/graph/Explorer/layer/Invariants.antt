use Rattle.std.proofs.Common.{◌≡◌, ◌≤◌, vec_len}
use Rattle.realm_plan.specs.PlanView.{plan_view}
use Rattle.plan_states.specs.Exploration.{AreOfRuns}
use Rattle.plan_states.proofs.graph.Explorer.layer.Given as goal

abbrev pub invariant-loop-place : goal.invariant-loop-place
invariant-loop-place l = record {
  of_runs : AreOfRuns (plan_view l.plan) l.self.turns.ends.items l.self.maps.items;
  layer : vec_len l.layer ≡ l.place;
  room : vec_len l.next.states ≤ l.room;
}

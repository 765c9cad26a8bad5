use Rattle.std.proofs.Common.{◌≡◌, ◌+◌, vec_len}
use Rattle.std.specs.Prelude.{sum_by}
use Rattle.realm_plan.specs.PlanView.{plan_view}
use Rattle.plan_states.specs.Exploration.{AreOfRuns}
use Rattle.plan_states.proofs.graph.Explorer.layers.Given as goal

abbrev pub invariant-layers : goal.invariant-layers
invariant-layers l = record {
  of_runs : AreOfRuns (plan_view l.plan) l.self.turns.ends.items l.self.maps.items;
  room : sum_by vec_len l.layers.items + l.room ≡ l.most;
}

abbrev pub decreases-layers : goal.decreases-layers
decreases-layers l = l.room

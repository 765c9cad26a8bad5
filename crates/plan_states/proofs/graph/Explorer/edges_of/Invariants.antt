use Rattle.realm_plan.specs.PlanView.{plan_view}
use Rattle.plan_states.specs.Exploration.{AreOfRuns}
use Rattle.plan_states.proofs.graph.Explorer.edges_of.Given as goal

abbrev pub invariant-loop-build : goal.invariant-loop-build
invariant-loop-build l = AreOfRuns (plan_view l.plan) l.self.turns.ends.items l.self.maps.items

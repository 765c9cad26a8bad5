use Rattle.realm_plan.specs.PlanView.{plan_view}
use Rattle.plan_states.specs.RunLog.{IsLog}
use Rattle.plan_states.proofs.runs.Walk.new.Given as goal

abbrev pub invariant-loop-layer : goal.invariant-loop-layer
invariant-loop-layer l = IsLog (plan_view l.plan) l.graph.ends.items l.graph.held.items l.graph.maps.items l.log

use Rattle.realm_plan.specs.PlanView.{plan_view}
use Rattle.plan_states.specs.RunLog.{IsLog}
use Rattle.plan_states.proofs.runs.Walk.run_all.Given as goal

abbrev pub invariant-loop-depth : goal.invariant-loop-depth
invariant-loop-depth l = IsLog (plan_view l.plan) l.graph.ends.items l.graph.held.items l.graph.maps.items l.self.log

abbrev pub invariant-loop-state : goal.invariant-loop-state
invariant-loop-state l = IsLog (plan_view l.plan) l.graph.ends.items l.graph.held.items l.graph.maps.items l.self.log

abbrev pub invariant-loop-edge : goal.invariant-loop-edge
invariant-loop-edge l = IsLog (plan_view l.plan) l.graph.ends.items l.graph.held.items l.graph.maps.items l.self.log

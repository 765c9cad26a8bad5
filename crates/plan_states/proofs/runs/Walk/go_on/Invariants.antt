use Rattle.realm_plan.specs.PlanView.{plan_view}
use Rattle.plan_states.specs.RunLog.{position_of, IsLog, IsShownBy}
use Rattle.plan_states.proofs.runs.Walk.go_on.Given as goal

abbrev pub invariant-loop-depth : goal.invariant-loop-depth
invariant-loop-depth l = record {
  log : IsLog (plan_view l.plan) l.graph.ends.items l.graph.held.items l.graph.maps.items l.self.log;
  at : IsShownBy (plan_view l.plan) l.self.log.snapshots.items l.at (position_of l.running);
}

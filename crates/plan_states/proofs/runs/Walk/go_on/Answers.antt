use Rattle.std.proofs.Common.{sym, subst, ◌∙◌}
use Rattle.realm_plan.specs.PlanView.{plan_view}
use Rattle.plan_states.specs.RunLog.{position_of, IsLog, IsShownBy}
use Rattle.plan_states.specs.declared.run_log.RunLog.{RunLog}
use Rattle.plan_states.proofs.runs.Walk.go_on.Goals as goal

pub loop-depth-preserved : goal.loop-depth-preserved
loop-depth-preserved c = record {
  log = subst (IsLog (plan_view c.args.plan.now) c.args.graph.now.ends.items c.args.graph.now.held.items c.args.graph.now.maps.items)
      (sym (c.note_arrival.ensures ∙ c.note_turn.ensures)) c.in_ok-at.ensures.log;
  at = subst (λ (log : RunLog). IsShownBy (plan_view c.args.plan.now) log.snapshots.items c.in_ok-at.at (position_of c.turn.new.running))
      (sym (c.note_arrival.ensures ∙ c.note_turn.ensures)) c.in_ok-at.ensures.at;
}

use Rattle.std.proofs.Common.{sym, ap, ◌∙◌}
use Rattle.realm_host.specs.Recorded.{fresh_like}
use Rattle.realm_plan.specs.PlanView.{plan_view}
use Rattle.plan_states.specs.RunLog.{position_of}
use Rattle.plan_states.proofs.Reached.{opens_reached}
use Rattle.plan_states.proofs.graph.map_after.Goals as goal

pub leave_nothing-requires-clause-opens : goal.leave_nothing-requires-clause-opens
leave_nothing-requires-clause-opens c =
    opens_reached (plan_view c.args.plan.now) c.args.schedule.now (position_of c.in_ok-running.running) c.in_ok-running.ensures.ok
    ∙ ap fresh_like (sym c.into_ledger-ledger.ensures)

pub returns-clause-ok : goal.returns-clause-ok
returns-clause-ok c = record {
  schedule = c.args.schedule.now;
  at = position_of c.in_ok-running.running;
  reached = c.in_ok-running.ensures.ok;
  over = c.in_ok-map.ensures.over;
  is_map = c.in_ok-map.ensures.map;
}

use Rattle.realm_plan.specs.PlanView.{plan_view}
use Rattle.plan_states.specs.RunLog.{position_of}
use Rattle.plan_states.proofs.RunLogs.{at_boot}
use Rattle.plan_states.proofs.run_log.boot_snapshot.Goals as goal

pub returns-clause-ok : goal.returns-clause-ok
returns-clause-ok c =
    at_boot (plan_view c.args.plan.now) c.in_ok-snapshot_of.field-0 (position_of c.in_ok-running.running) c.in_ok-running.ensures.ok
    c.in_ok-snapshot_of.ensures.of_host c.in_ok-snapshot_of.ensures.builds

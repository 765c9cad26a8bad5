use Rattle.std.proofs.lemmas.Result.{on_ok_weaker}
use Rattle.realm_plan.specs.PlanView.{plan_view}
use Rattle.plan_states.proofs.Builds.{builds_are}
use Rattle.view_program.proofs.Visits.{IsAdded-run}
use Rattle.view_program.proofs.schedules.sampling.count_run.Goals as goal

pub returns : goal.returns
returns c =
    on_ok_weaker c.add.result
    (IsAdded-run (plan_view c.args.plan.now) c.args.host c.args.choices.now c.args.ends.now c.in_ok-map.map c.args.totals.now c.add.new.self c.len.result
    (builds_are c.args.plan.now c.len.result c.len.ensures) c.in_ok-map.ensures)
    c.add.ensures

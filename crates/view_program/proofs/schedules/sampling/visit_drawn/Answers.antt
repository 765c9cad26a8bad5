use Rattle.std.proofs.lemmas.Result.{on_ok_weaker}
use Rattle.realm_plan.specs.PlanView.{plan_view}
use Rattle.view_program.proofs.Visits.{opens_same}
use Rattle.view_program.proofs.Samples.{IsDrawnAndCounted-run}
use Rattle.view_program.proofs.schedules.sampling.visit_drawn.Goals as goal

pub count_run-requires : goal.count_run-requires
count_run-requires g c =
    opens_same (plan_view c.args.plan.now) c.in_ok-host.host c.run_drawn.new.host c.run_drawn.new.choices.items c.run_drawn.new.ends.items c.in_ok-host.ensures
    c.in_ok-run_drawn.ensures.1

pub returns : goal.returns
returns g c =
    on_ok_weaker c.count_run.result
    (IsDrawnAndCounted-run (plan_view c.args.plan.now) (g.R.Rng.stream c.args.rng.now) (g.R.Rng.stream c.run_drawn.new.rng) c.in_ok-host.host c.run_drawn.new.host
    c.run_drawn.new.choices.items c.deref.result.now c.run_drawn.new.ends.items c.deref-2.result.now c.args.totals.now c.count_run.new.totals
    c.in_ok-host.ensures c.deref.ensures.value c.deref-2.ensures.value c.in_ok-run_drawn.ensures)
    c.count_run.ensures

use Rattle.realm_plan.specs.PlanView.{plan_view}
use Rattle.view_program.proofs.Samples.{IsSampling-none, IsSampling-more}
use Rattle.view_program.proofs.schedules.sampling.sample.Goals as goal

pub loop-done-init : goal.loop-done-init
loop-done-init g c = IsSampling-none (plan_view c.args.plan.now) (g.R.Rng.stream c.args.rng.now) c.new-totals.result c.new-totals.ensures

pub loop-done-preserved : goal.loop-done-preserved
loop-done-preserved g c =
    IsSampling-more (plan_view c.args.plan.now) (g.R.Rng.stream c.args.rng.now) c.loop-done.done (g.R.Rng.stream c.loop-done.rng) (g.R.Rng.stream c.visit_drawn.new.rng)
    c.loop-done.totals c.visit_drawn.new.totals c.loop-done.invariant c.in_ok-visit_drawn.ensures

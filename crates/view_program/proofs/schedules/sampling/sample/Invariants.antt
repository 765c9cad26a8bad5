use Rattle.realm_plan.specs.PlanView.{plan_view}
use Rattle.view_program.proofs.Samples.{IsSampling}
use Rattle.view_program.proofs.schedules.sampling.sample.Given as goal

abbrev pub invariant-loop-done : goal.invariant-loop-done
invariant-loop-done g l = IsSampling (plan_view l.plan) (g.R.Rng.stream l.fn.rng) l.done (g.R.Rng.stream l.rng) l.totals

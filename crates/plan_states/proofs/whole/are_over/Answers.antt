use Rattle.std.proofs.Common.{not, ap, sym, ◌∙◌}
use Rattle.realm_plan.specs.PlanView.{plan_view}
use Rattle.plan_states.specs.Whole.{has_step_left}
use Rattle.plan_states.proofs.Loops.{number_fails, numbers_pass}
use Rattle.plan_states.proofs.whole.are_over.Goals as goal

pub returns-then-has_step_left : goal.returns-then-has_step_left
returns-then-has_step_left c =
    sym (number_fails (λ build. not (has_step_left (plan_view c.args.plan.now) c.args.done.now build)) 8 c.loop-build.build c.loop-build-test.true
    (ap not (sym c.has_step_left.ensures ∙ c.if-has_step_left.true)))

pub returns : goal.returns
returns c =
    sym (numbers_pass (λ build. not (has_step_left (plan_view c.args.plan.now) c.args.done.now build)) 8 c.loop-build.build c.loop-build-test.false
    (λ build less. ap not (c.loop-build.invariant build less)))

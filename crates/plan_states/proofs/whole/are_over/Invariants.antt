use Rattle.std.proofs.Common.{◌≡◌, ℕ, ◌<◌, false}
use Rattle.realm_plan.specs.PlanView.{plan_view}
use Rattle.plan_states.specs.Whole.{has_step_left}
use Rattle.plan_states.proofs.whole.are_over.Given as goal

abbrev pub invariant-loop-build : goal.invariant-loop-build
invariant-loop-build l = (build : ℕ) → build < l.build → has_step_left (plan_view l.plan) l.done build ≡ false

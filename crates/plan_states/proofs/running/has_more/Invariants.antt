use Rattle.std.proofs.Common.{◌≡◌, ℕ, ◌<◌, false}
use Rattle.realm_plan.specs.PlanView.{plan_view}
use Rattle.plan_states.specs.Reached.{is_left}
use Rattle.plan_states.proofs.running.has_more.Given as goal

abbrev pub invariant-loop-build : goal.invariant-loop-build
invariant-loop-build l = (build : ℕ) → build < l.build → is_left (plan_view l.plan) l.places build ≡ false

use Rattle.std.proofs.Common.{◌≡◌, ℕ, ◌<◌, false}
use Rattle.realm_plan.specs.PlanView.{plan_view}
use Rattle.plan_states.specs.States.{state_has_left}
use Rattle.plan_states.proofs.state.State.has_more.Given as goal

abbrev pub invariant-loop-build : goal.invariant-loop-build
invariant-loop-build l = (build : ℕ) → build < l.build → state_has_left (plan_view l.plan) l.self build ≡ false

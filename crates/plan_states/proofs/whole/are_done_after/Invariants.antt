use Rattle.std.proofs.Common.{◌≡◌, ◌==◌, ℕ, ◌<◌, true}
use Rattle.realm_plan.specs.PlanView.{plan_view}
use Rattle.plan_states.specs.Whole.{done_after, done_of}
use Rattle.plan_states.proofs.whole.are_done_after.Given as goal

abbrev pub invariant-loop-build : goal.invariant-loop-build
invariant-loop-build l = (build : ℕ) → build < l.build → (done_of l.then build == done_after (plan_view l.plan) l.ends l.done l.label build) ≡ true

use Rattle.std.proofs.Common.{◌≡◌, ℕ, ◌<◌, false, length, get_or}
use Rattle.realm_plan.specs.PlanView.{plan_view}
use Rattle.view_program.specs.Chosen.{has_left}
use Rattle.view_program.proofs.schedules.run.builds_left.Given as goal

abbrev pub invariant-loop-build : goal.invariant-loop-build
invariant-loop-build l = (length l.left ≡ 8) × ((k : ℕ) → k < l.build → get_or l.left k false ≡ has_left (plan_view l.plan) l.places k)

use Rattle.std.proofs.Common.{◌≡◌}
use Rattle.realm_plan.specs.PlanView.{plan_view}
use Rattle.view_program.specs.Chosen.{builds_left, stage_at}
use Rattle.view_program.specs.TurnsLeft.{AreSteady, turns_left}
use Rattle.view_program.proofs.GoingOn.{IsGoingOn}
use Rattle.view_program.proofs.schedules.run.go_on.Given as goal

abbrev pub invariant-loop-build : goal.invariant-loop-build
invariant-loop-build g l =
    AreSteady (plan_view l.plan) l.places
    × (l.left ≡ builds_left (plan_view l.plan) l.places)
    × IsGoingOn (plan_view l.plan) (stage_at l.fn.host l.fn.places l.fn.ends.items)
    l.fn.choices.items l.choices.items (stage_at l.host l.places l.ends.items)

abbrev pub decreases-loop-build : goal.decreases-loop-build
decreases-loop-build g l = turns_left l.plan.gives_up (plan_view l.plan).builds l.places

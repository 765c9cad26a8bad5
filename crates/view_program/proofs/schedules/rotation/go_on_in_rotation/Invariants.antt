use Rattle.std.proofs.Common.{◌≡◌}
use Rattle.realm_plan.specs.PlanView.{plan_view}
use Rattle.view_program.specs.Chosen.{builds_left, stage_at}
use Rattle.view_program.specs.TurnsLeft.{AreSteady, turns_left}
use Rattle.view_program.proofs.Rotating.{IsRotating}
use Rattle.view_program.proofs.schedules.rotation.go_on_in_rotation.Given as goal

abbrev pub invariant-loop-build : goal.invariant-loop-build
invariant-loop-build g l =
    AreSteady (plan_view l.plan) l.places
    × (l.left ≡ builds_left (plan_view l.plan) l.places)
    × IsRotating (plan_view l.plan) (stage_at l.fn.host l.fn.places l.fn.ends.items)
    l.choices.items (stage_at l.host l.places l.ends.items) l.from

abbrev pub decreases-loop-build : goal.decreases-loop-build
decreases-loop-build g l = turns_left l.plan.gives_up (plan_view l.plan).builds l.places

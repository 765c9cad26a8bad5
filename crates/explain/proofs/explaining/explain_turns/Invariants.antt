use Rattle.std.proofs.Common.{map, take}
use Rattle.realm_plan.specs.PlanView.{plan_view}
use Rattle.explain.specs.Explained.{report_of}
use Rattle.explain.proofs.Runs.{IsFront}
use Rattle.explain.proofs.explaining.explain_turns.Given as goal

abbrev pub invariant-loop-build : goal.invariant-loop-build
invariant-loop-build g l =
    IsFront (plan_view l.plan) l.fn.host (take l.build-index l.plan.order.items) (record { host = l.host; places = l.places }) (map report_of l.turns.items)

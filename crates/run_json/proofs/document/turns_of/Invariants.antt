use Rattle.std.proofs.Common.{take}
use Rattle.realm_plan.specs.PlanView.{plan_view}
use Rattle.plan_replay.specs.Run.{start}
use Rattle.run_json.specs.Document.{AreTurnItems}
use Rattle.run_json.proofs.document.turns_of.Given as goal

abbrev pub invariant-loop-build : goal.invariant-loop-build
invariant-loop-build g l =
    AreTurnItems (plan_view l.plan) (take l.build-index l.plan.order.items) (start l.fn.host) (record { host = l.host; places = l.places }) l.items.items

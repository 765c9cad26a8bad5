use Rattle.std.proofs.Common.{take}
use Rattle.realm_plan.specs.PlanView.{plan_view}
use Rattle.plan_states.specs.Reached.{IsReached}
use Rattle.plan_states.proofs.running.follow.Given as goal

abbrev pub invariant-loop-build : goal.invariant-loop-build
invariant-loop-build l = IsReached (plan_view l.plan) (take l.build-index l.schedule) (record { host = l.host; places = l.places })

use Rattle.std.proofs.Common.{string_bytes, take}
use Rattle.realm_plan.specs.PlanView.{plan_view}
use Rattle.plan_replay.specs.Run.{turn_text}
use Rattle.plan_replay.proofs.Runs.{IsFront, LeadsTold}
use Rattle.plan_replay.proofs.run.run_turns.Given as goal

abbrev pub invariant-loop-build : goal.invariant-loop-build
invariant-loop-build g l =
    IsFront (LeadsTold (plan_view l.plan) l.fn.host) turn_text (take l.build-index l.plan.order.items) (record { host = l.host; places = l.places })
    (string_bytes l.fn.text) (string_bytes l.text)

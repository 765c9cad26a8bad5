use Rattle.std.proofs.Common.{◌≡◌, string_bytes, take}
use Rattle.realm_plan.specs.PlanView.{plan_view}
use Rattle.realm_program.specs.Replay.{opening_host}
use Rattle.plan_replay.specs.Run.{start}
use Rattle.view_program.specs.Calls.{AppendsCallsOfTurns}
use Rattle.view_program.proofs.plan_calls.calls_text.Given as goal

abbrev pub invariant-loop-build : goal.invariant-loop-build
invariant-loop-build l = record {
  form : l.calls.form ≡ l.fn.form;
  frame : l.calls.frame ≡ l.initial.calls.frame;
  turns : AppendsCallsOfTurns l.fn.form l.initial.calls.frame (plan_view l.plan) (take l.build-index l.plan.order.items) l.initial.calls.runs l.calls.runs
      (start (opening_host (plan_view l.plan))) (record { host = l.host; places = l.places }) (string_bytes l.initial.calls.text) (string_bytes l.calls.text);
}

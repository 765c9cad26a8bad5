use Rattle.std.proofs.Common.{◌≡◌, ℕ, List, Option, ◌++◌, string_bytes, ap, subst, ◌∙◌}
use Rattle.realm_plan.specs.PlanView.{plan_view}
use Rattle.history_calls.specs.Frame.{Place}
use Rattle.history_calls.specs.Lines.{platform_line}
use Rattle.plan_replay.specs.Run.{start}
use Rattle.realm_program.specs.Replay.{opening_host}
use Rattle.view_program.specs.Calls.{AppendsCallsOfTurn, AppendsCallsOfTurns, frame_of}
use Rattle.view_program.proofs.CallsTexts.{calls_more, calls_whole}
use Rattle.view_program.proofs.plan_calls.calls_text.Goals as goal

pub loop-build-preserved : goal.loop-build-preserved
loop-build-preserved c = record {
  form = c.push_turn.ensures.form ∙ c.loop-build.invariant.form;
  frame = c.push_turn.ensures.frame ∙ c.loop-build.invariant.frame;
  turns = calls_more c.args.form c.new-frame.result (plan_view c.args.plan.now) c.args.plan.now.order.items c.deref-build-items.result.now c.loop-build.build-index
      _ _ _ _ _ c.build-item.result _ _ _ _
      c.deref-build-items.ensures.value c.loop-build-test.true c.build-item.is c.loop-build.invariant.turns
      (subst (λ (frame : Place). AppendsCallsOfTurn c.args.form frame (plan_view c.args.plan.now) c.loop-build.calls.runs c.push_turn.new.self.runs
      (record { host = c.loop-build.host; places = c.loop-build.places }) c.build-item.result
      (record { host = c.push_turn.new.host; places = c.push_turn.new.places }) (string_bytes c.loop-build.calls.text) (string_bytes c.push_turn.new.self.text))
      c.loop-build.invariant.frame
      (subst (λ form. AppendsCallsOfTurn form c.loop-build.calls.frame (plan_view c.args.plan.now) c.loop-build.calls.runs c.push_turn.new.self.runs
      (record { host = c.loop-build.host; places = c.loop-build.places }) c.build-item.result
      (record { host = c.push_turn.new.host; places = c.push_turn.new.places }) (string_bytes c.loop-build.calls.text) (string_bytes c.push_turn.new.self.text))
      c.loop-build.invariant.form c.in_ok-push_turn.ensures.turn));
}

pub returns : goal.returns
returns c =
    let plan = plan_view c.args.plan.now in
    let frame : c.new-frame.result ≡ frame_of c.args.base plan = c.new-frame.ensures ∙ ap (λ base. frame_of base plan) c.address.ensures.value in
    record {
      opening = string_bytes c.push_opening.new.text;
      of_machine = λ is_trace. c.in_ok-push_opening.ensures is_trace ∙ (λ i. c.new-text.ensures.bytes i ++ platform_line (frame i) c.args.plan.now.aux);
      last = record { host = c.loop-build.host; places = c.loop-build.places };
      pages = c.loop-build.calls.runs;
      turns = subst (λ (place : Place). AppendsCallsOfTurns c.args.form place plan plan.order _ c.loop-build.calls.runs (start (opening_host plan))
          (record { host = c.loop-build.host; places = c.loop-build.places }) (string_bytes c.push_opening.new.text) (string_bytes c.loop-build.calls.text)) frame
          (subst (λ (runs : List (Option ℕ)). AppendsCallsOfTurns c.args.form c.new-frame.result plan plan.order runs c.loop-build.calls.runs (start (opening_host plan))
          (record { host = c.loop-build.host; places = c.loop-build.places }) (string_bytes c.push_opening.new.text) (string_bytes c.loop-build.calls.text)) c.new.ensures
          (calls_whole c.args.form c.new-frame.result plan c.args.plan.now.order.items c.deref-build-items.result.now c.loop-build.build-index _ _ _ _ _ _
          c.deref-build-items.ensures.value c.loop-build-test.false c.loop-build.invariant.turns));
    }

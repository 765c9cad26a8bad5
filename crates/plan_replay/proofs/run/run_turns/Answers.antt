use Rattle.std.proofs.Common.{string_bytes, ◌+◌, refl, ◌∙◌}
use Rattle.realm_plan.specs.PlanView.{plan_view}
use Rattle.plan_replay.specs.Run.{turn_text}
use Rattle.plan_replay.proofs.Runs.{AreTurns-more, at_err, front_more, front_whole, LeadsTold}
use Rattle.plan_replay.proofs.run.run_turns.Goals as goal

pub loop-build-preserved : goal.loop-build-preserved
loop-build-preserved g c =
    let told = c.in_ok-turn.ensures.ok in
    front_more (LeadsTold (plan_view c.args.plan.now) c.args.host.now) turn_text c.args.plan.now.order.items c.loop-build.build-index (string_bytes c.args.text.now)
    c.deref-build-items.result.now c.build-item.result _ _ told.turn _ _ c.deref-build-items.ensures.value c.loop-build-test.true c.build-item.is c.loop-build.invariant
    (λ turns run. AreTurns-more (plan_view c.args.plan.now) _ _ turns _ _ _ _ run (told.of_build ∙ c.number.ensures.value) told.is_turn) told.appended

pub returns-clause-ok : goal.returns-clause-ok
returns-clause-ok g c =
    let whole = front_whole (LeadsTold (plan_view c.args.plan.now) c.args.host.now) turn_text c.args.plan.now.order.items c.loop-build.build-index (string_bytes c.args.text.now)
    c.deref-build-items.result.now _ _ c.deref-build-items.ensures.value c.loop-build-test.false c.loop-build.invariant in
    record { turns = whole.turns; end = record { host = c.loop-build.host; places = c.loop-build.places }; is_run = whole.is_run; host = refl; appended = whole.appended }

pub returns-in_err-turn-clause-err : goal.returns-in_err-turn-clause-err
returns-in_err-turn-clause-err g c =
    let taken = c.in_err-turn.ensures.taken in
    let begun = front_more (LeadsTold (plan_view c.args.plan.now) c.args.host.now) turn_text c.args.plan.now.order.items c.loop-build.build-index (string_bytes c.args.text.now)
    c.deref-build-items.result.now c.build-item.result _ _ taken.turn (string_bytes c.loop-build.text) _ c.deref-build-items.ensures.value c.loop-build-test.true c.build-item.is c.loop-build.invariant
    (λ turns run. AreTurns-more (plan_view c.args.plan.now) _ _ turns _ _ _ _ run (taken.of_build ∙ c.number.ensures.value) taken.is_turn) refl in
    at_err c.from_residual.result (record { done = c.loop-build.build-index + 1; turns = begun.turns; end = _; is_run = begun.is_run; host = refl })

use Rattle.std.proofs.Common.{◌∷◌, [], map, refl, ap, ◌∙◌}
use Rattle.std.proofs.lemmas.List.{map-append}
use Rattle.realm_plan.specs.PlanView.{plan_view}
use Rattle.explain.specs.Explained.{report_of}
use Rattle.explain.proofs.Runs.{front_more, front_whole}
use Rattle.explain.proofs.explaining.explain_turns.Goals as goal

pub loop-build-preserved : goal.loop-build-preserved
loop-build-preserved g c =
    front_more (plan_view c.args.plan.now) c.args.host.now c.args.plan.now.order.items c.loop-build.build-index
    c.deref-build-items.result.now c.build-item.result c.number.result (record { host = c.loop-build.host; places = c.loop-build.places })
    (record { host = c.explain_turn.new.host; places = c.explain_turn.new.places }) (report_of c.in_ok-turn.turn)
    (map report_of c.loop-build.turns.items) (map report_of c.push.new.self.items)
    c.deref-build-items.ensures.value c.loop-build-test.true c.build-item.is c.number.ensures.value c.loop-build.invariant c.in_ok-turn.ensures
    (ap (map report_of) c.in_ok-push.ensures.items ∙ map-append report_of c.loop-build.turns.items (c.in_ok-turn.turn ∷ []))

pub returns : goal.returns
returns g c =
    let whole = front_whole (plan_view c.args.plan.now) c.args.host.now c.args.plan.now.order.items c.loop-build.build-index
    c.deref-build-items.result.now (record { host = c.loop-build.host; places = c.loop-build.places }) (map report_of c.loop-build.turns.items)
    c.deref-build-items.ensures.value c.loop-build-test.false c.loop-build.invariant in
    record { turns = whole.turns; end = record { host = c.loop-build.host; places = c.loop-build.places }; is_run = whole.is_run; host = refl; reported = whole.reported }

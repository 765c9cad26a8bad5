use Rattle.std.proofs.Common.{◌≡◌, ap, subst, sym, ◌∙◌}
use Rattle.std.specs.Prelude.{option_map, Some, None}
use Rattle.std.proofs.lemmas.Result.{IfOk-weaker}
use Rattle.realm_plan.specs.PlanView.{plan_view}
use Rattle.plan_replay.specs.Run.{step_after}
use Rattle.plan_replay.proofs.Turns.{place_is-place_of}
use Rattle.explain.specs.Explained.{report_of, IsExplainedStep}
use Rattle.explain.proofs.Runs.{idle_turn, step_turn}
use Rattle.explain.proofs.explaining.explain_turn.Goals as goal

pub returns-in_default : goal.returns-in_default
returns-in_default g c =
    let places = c.args.places.now in
    let build = c.args.build in
    let same = place_is-place_of places build c.index-places-build.result c.requires c.args.plan.now.builds_in_limits.1 c.type_inv.places in
    IfOk-weaker c.idle_turn.result _ _
    (λ turn is. idle_turn (plan_view c.args.plan.now) (record { host = c.args.host.now; places = places }) c.at-id.result build (report_of turn)
    c.at-id.ensures
    (subst (λ place. step_after (plan_view c.args.plan.now) build place.done ≡ None) same
    (sym c.step_after.ensures.value ∙ ap (option_map (λ step. step.now)) c.in_default.is))
    is)
    c.idle_turn.ensures

pub returns : goal.returns
returns g c =
    let places = c.args.places.now in
    let build = c.args.build in
    let same = place_is-place_of places build c.index-places-build.result c.requires c.args.plan.now.builds_in_limits.1 c.told-places in
    let report = report_of c.in_ok-turn.turn in
    step_turn (plan_view c.args.plan.now) (record { host = c.args.host.now; places = places }) c.at-id.result build
    c.in-Some.step.now c.explain_step.new.host c.explain_step.new.place report
    c.at-id.ensures
    (subst (λ place. step_after (plan_view c.args.plan.now) build place.done ≡ Some c.in-Some.step.now) same
    (sym c.step_after.ensures.value ∙ ap (option_map (λ step. step.now)) c.in-Some.is))
    (subst (λ place. IsExplainedStep c.args.plan.now.gives_up c.args.host.now c.at-id.result place c.in-Some.step.now c.explain_step.new.host c.explain_step.new.place report) same
    c.in_ok-turn.ensures)

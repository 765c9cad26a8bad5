use Rattle.std.proofs.Common.{◌++◌, ◌<◌, ◌≤◌, length, ◌∷◌, [], ◌∙◌, ap, take, get_or, subst, sym}
use Rattle.std.proofs.lemmas.List.{take_more}
use Rattle.realm_plan.specs.PlanView.{plan_view}
use Rattle.plan_replay.specs.Run.{Position, start}
use Rattle.run_json.specs.Document.{AreTurnItems}
use Rattle.run_json.proofs.Turns.{AreTurnItems-more, HasTurnItems-whole}
use Rattle.run_json.proofs.document.turns_of.Goals as goal

pub loop-build-preserved : goal.loop-build-preserved
loop-build-preserved g c =
    let plan = plan_view c.args.plan.now in
    let order = c.args.plan.now.order.items in
    let i = c.loop-build.build-index in
    let from = start c.args.host.now in
    let at : Position = record { host = c.loop-build.host; places = c.loop-build.places } in
    let to : Position = record { host = c.push_turn.new.host; places = c.push_turn.new.places } in
    let old = c.loop-build.items.items in
    let new = c.push_turn.new.items.items in
    let build = c.build-item.result in
    let taken = ap (λ b. take i order ++ b ∷ []) (c.build-item.is ∙ ap (λ items. get_or items i build) c.deref-build-items.ensures.value)
    ∙ sym (take_more order i build (subst (λ items. i < length items) c.deref-build-items.ensures.value c.loop-build-test.true)) in
    subst (λ o. AreTurnItems plan o from to new) taken
    (AreTurnItems-more plan (take i order) from at build to old new c.loop-build.invariant
    (rw c.number.ensures.value at c.in_ok-push_turn.ensures))

pub returns : goal.returns
returns g c =
    let at : Position = record { host = c.loop-build.host; places = c.loop-build.places } in
    HasTurnItems-whole (plan_view c.args.plan.now) c.loop-build.build-index c.args.host.now at c.loop-build.items.items
    (subst (λ items. length items ≤ c.loop-build.build-index) c.deref-build-items.ensures.value c.loop-build-test.false)
    c.loop-build.invariant

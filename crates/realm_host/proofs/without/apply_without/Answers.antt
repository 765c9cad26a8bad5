use Rattle.std.proofs.Common.{◌≡◌, ◌≢◌, ◌<◌, ◌≤◌, length, get_or, true, false, List, sym, ap, ◌∙◌, subst}
use Rattle.std.proofs.lemmas.Bool.{eq-eqb}
use Rattle.realm_model.specs.declared.act.Event.{Event}
use Rattle.realm_host.specs.Recorded.{CanApply}
use Rattle.realm_host.proofs.LeftOut.{nothing_yet, can_apply, is_without}
use Rattle.realm_host.proofs.without.apply_without.Goals as goal

pub loop-event-init : goal.loop-event-init
loop-event-init g c = nothing_yet c.args.ledger.now c.args.build c.args.fresh.now c.requires

-- the fresh host refuses no event of the other builds
pub unreachable-requires : goal.unreachable-requires
unreachable-requires g c =
    let items = c.history-event-items.ensures.events in
    let apart : c.event-item.result.build ≢ c.args.build =
    λ same. let bad : false ≡ true = c.if-eq.ensures ∙ eq-eqb c.event-item.result.build c.args.build same in cc in
    let can : CanApply c.loop-event.fresh c.event-item.result =
    can_apply c.args.ledger.now c.history-event-items.ensures.legal c.history-event-items.ensures.room c.args.build c.loop-event.event-index c.event-item.result
    (subst (λ (es : List Event). c.loop-event.event-index < length es) items c.loop-event-test.true)
    (c.event-item.is ∙ ap (λ (es : List Event). get_or es c.loop-event.event-index c.event-item.result) items)
    c.loop-event.fresh c.loop-event.invariant apart in
    let bad : false ≡ true = sym c.if-not-apply_recorded.true ∙ c.apply_recorded.ensures.answer.1 can in
    cc

pub returns : goal.returns
returns g c =
    is_without c.args.ledger.now c.history-event-items.ensures.legal c.history-event-items.ensures.room c.args.build c.loop-event.event-index
    (subst (λ (es : List Event). length es ≤ c.loop-event.event-index) c.history-event-items.ensures.events c.loop-event-test.false)
    c.loop-event.fresh c.loop-event.invariant

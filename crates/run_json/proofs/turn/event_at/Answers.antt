use Rattle.std.proofs.Common.{Option, Some, None, ap, refl, sym, subst, ◌∙◌}
use Rattle.std.specs.List.{slice_get}
use Rattle.std.proofs.lemmas.Option.{slice_get_read, slice_get_past}
use Rattle.realm_model.specs.declared.act.Event.{Event}
use Rattle.run_json.specs.Turns.{IsEventAt}
use Rattle.run_json.proofs.turn.event_at.Goals as goal

pub returns-in_ok-event_item-in-Some : goal.returns-in_ok-event_item-in-Some
returns-in_ok-event_item-in-Some g c =
    let events = c.history.result.now in
    let place = c.args.place in
    let found = c.in-Some.ensures.lookup in
    let is = slice_get_read events _ place c.in-Some.event.now refl found.3.0 found.1 in
    subst (λ (event : Option Event). IsEventAt c.args.host.now c.args.build event (Some c.in_ok-event_item-in-Some.field-0))
    (sym is ∙ ap (λ events. slice_get events place) c.history.ensures.events)
    c.in_ok-event_item-in-Some.ensures

pub returns-in-None : goal.returns-in-None
returns-in-None g c =
    let events = c.history.result.now in
    let place = c.args.place in
    subst (λ (event : Option Event). IsEventAt c.args.host.now c.args.build event None)
    (sym (slice_get_past events place c.in-None.ensures.lookup.3) ∙ ap (λ events. slice_get events place) c.history.ensures.events)
    refl

use Rattle.std.proofs.Common.{List, ◌∷◌, [], ◌++◌, Vec, Global, true, false, sym, ap, ◌∙◌, eq-eqb, ne_eqb}
use Rattle.std.proofs.lemmas.List.{append-nil}
use Rattle.realm_model.specs.declared.act.Event.{Event}
use Rattle.plan_states.proofs.Snapshots.{event_more}
use Rattle.plan_states.proofs.snapshot.events_of.Goals as goal
use Rattle.plan_states.proofs.snapshot.events_of.Goals.{then-from-build+in_ok-push, else-from-build}

pub loop-event-preserved : goal.loop-event-preserved
loop-event-preserved c =
    let more = event_more c.args.build c.loop-event.event-index c.args.history.now c.event-item.result in
    elim c.if-from-build.branch [
      | then-from-build+in_ok-push w ↦
          more true c.loop-event.events.items c.if-from-build.events.items c.loop-event-test.true c.event-item.is
          (eq-eqb c.event-item.result.build c.args.build (sym c.number.ensures.value ∙ sym c.from.ensures ∙ w.if-from-build.true)) c.loop-event.invariant
          (◌∙◌ {A = List Event} (ap (λ (v : Vec Event Global). v.items) w.events-is) (◌∙◌ {A = List Event} w.in_ok-push.ensures.items
          (λ i. c.loop-event.events.items ++ record { build = c.event-item.result.build; act = w.clone.ensures i } ∷ [])))
      | else-from-build w ↦
          more false c.loop-event.events.items c.if-from-build.events.items c.loop-event-test.true c.event-item.is
          (ne_eqb c.event-item.result.build c.args.build (λ same. w.if-from-build.false (c.from.ensures ∙ c.number.ensures.value ∙ same))) c.loop-event.invariant
          (◌∙◌ {A = List Event} (ap (λ (v : Vec Event Global). v.items) w.events-is) (sym (append-nil c.loop-event.events.items)))
    ]

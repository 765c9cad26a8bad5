use Rattle.std.proofs.Common.{sym, ap, ◌∙◌}
use Rattle.std.specs.Prelude.{option_and_then}
use Rattle.realm_model.specs.declared.act.Event.{Event}
use Rattle.plan_states.specs.Turned.{moved_by}
use Rattle.plan_states.proofs.RunLogs.{nothing_at_place, seen_at_place}
use Rattle.plan_states.proofs.running.moved_after.Goals as goal

pub returns-in-Some : goal.returns-in-Some
returns-in-Some g c =
    c.moved_by.ensures
    ∙ ap (option_and_then (λ (event : Event). moved_by event.act))
    (sym (seen_at_place c.args.host.now.history c.history.result.now c.args.before c.in-Some.event.now c.history.ensures.events
    c.in-Some.ensures.lookup.3.0 c.in-Some.ensures.lookup.1))

pub returns-in-None : goal.returns-in-None
returns-in-None g c =
    sym (ap (option_and_then (λ (event : Event). moved_by event.act))
    (nothing_at_place c.args.host.now.history c.history.result.now c.args.before c.history.ensures.events c.in-None.ensures.lookup.3))

use Rattle.std.proofs.Common.{◌≡◌, take}
use Rattle.realm_model.specs.History.{events_of}
use Rattle.plan_states.proofs.snapshot.events_of.Given as goal

abbrev pub invariant-loop-event : goal.invariant-loop-event
invariant-loop-event l = l.events.items ≡ events_of l.build (take l.event-index l.history)

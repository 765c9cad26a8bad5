use Rattle.std.specs.Prelude.{◌≡◌, ◌≤◌, ◌↔◌, drop, length}
use Rattle.realm_model.specs.History.{events_of}
use Rattle.build_seats.proofs.close.is_trail.Given as goal

-- the event list is the build's part of the history exactly if the rest of the list is the build's part of the rest of
-- the history
abbrev pub invariant-loop-event : goal.invariant-loop-event
invariant-loop-event l =
    (l.at ≤ length l.trail)
    × ((drop l.at l.trail ≡ events_of l.build (drop l.event-index l.history)) ↔ (l.trail ≡ events_of l.build l.history))

-- The statement that a host's world does not depend on the sequence in which builds took the lock.
use Rattle.std.specs.Prelude.{◌≡◌, List, Some}
use Rattle.std.specs.List.{All}
use Rattle.host_ledger.specs.View.{HostView, world_of}
use Rattle.realm_model.specs.declared.act.Event.{Event}
use Rattle.realm_model.specs.History.{events_of, replay, IsLegal}
use Rattle.build_seats.specs.Seats.{SeatView}

-- Each legal history leads to the host's world if the event list of each seat is that of the seat's build in the
-- history. The schedule of the builds' events may be any.
abbrev pub IsWorldOfSeats : HostView → List SeatView → Type 0
IsWorldOfSeats host seats =
    (history : List Event) → IsLegal host.limits history → All (λ seat. seat.trail ≡ events_of seat.build history) seats
    → replay host.limits history ≡ Some (world_of host)

use Rattle.std.specs.Prelude.{◌≡◌, ◌<◌, slice_index, take}
use Rattle.std.specs.List.{All}
use Rattle.build_seats.specs.Seats.{SeatView}
use Rattle.build_seats.proofs.close.audit.Given as goal

-- Each seat audited so far is of a build below 8, and its event count is the one that `books` has for that build.
-- `books` and `seats` are unchanged.
abbrev pub invariant-loop-seat : goal.invariant-loop-seat
invariant-loop-seat g l =
    (l.books ≡ l.initial.books) × (l.seats ≡ l.initial.seats)
    × All (λ (seat : SeatView). (seat.build < 8) × (slice_index l.initial.books seat.build ≡ seat.count)) (take l.seat-index l.initial.seats)

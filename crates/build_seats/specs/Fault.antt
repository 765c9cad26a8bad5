-- The reasons why a shared host is not closed, as conditions on the host and the session handles (`Seat`).
use Rattle.std.specs.Prelude.{List}
use Rattle.host_ledger.specs.View.{HostView}
use Rattle.build_seats.specs.declared.close.CloseFault.{CloseFault}
use Rattle.build_seats.specs.declared.close.CloseFault.TheVariants.{SeatMissing, RecordMismatch}
use Rattle.build_seats.specs.Close.{IsMissing, AreSeatsWhole, Differs}
use Rattle.build_seats.specs.Seats.{SeatView}

-- The fault names the lowest build that does not have exactly one seat, or else the lowest build with a wrong event
-- list. An event list is wrong if it differs from the build's part of the history.
abbrev pub IsFault : CloseFault → HostView → List SeatView → Type 0
IsFault (SeatMissing build) host seats = IsMissing host.limits.builds build seats
IsFault (RecordMismatch build) host seats = AreSeatsWhole host.limits.builds seats × Differs build host.history seats

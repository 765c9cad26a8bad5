use Rattle.std.specs.Prelude.{◌≡◌, ◌≤◌, take}
use Rattle.build_seats.specs.Close.{seats_of}
use Rattle.build_seats.proofs.close.seat_count.Given as goal

abbrev pub invariant-loop-seat : goal.invariant-loop-seat
invariant-loop-seat g l = record {
  is : l.count ≡ seats_of l.build (take l.seat-index l.seats);
  few : l.count ≤ l.seat-index;
}

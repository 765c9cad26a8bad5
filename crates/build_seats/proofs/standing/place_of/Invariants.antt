use Rattle.std.proofs.Common.{◌≡◌, ◌-◌, ◌≤◌, ◌++◌, length, take, drop}
use Rattle.build_seats.specs.Standing.{with_number}
use Rattle.build_seats.proofs.standing.place_of.Given as goal

abbrev pub invariant-places : goal.invariant-places
invariant-places l =
    (l.place ≤ length l.numbers)
    × (with_number l.number l.numbers ≡ take l.place l.numbers ++ with_number l.number (drop l.place l.numbers))

abbrev pub decreases-places : goal.decreases-places
decreases-places l = length l.numbers - l.place

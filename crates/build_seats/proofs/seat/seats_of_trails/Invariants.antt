use Rattle.std.specs.Prelude.{◌≡◌, ◌≤◌, ◌+◌, ◌-◌, [], map, replicate, vec_len, vec_capacity}
use Rattle.std.specs.Array.Iter.{array_into_iter_items}
use Rattle.std.specs.List.{range_with_len}
use Rattle.build_seats.specs.Passes.{unused}
use Rattle.build_seats.specs.Seats.{new_seat}
use Rattle.build_seats.proofs.seat.seats_of_trails.Given as goal

-- The seats made so far are those of builds 0, 1 and so on, with no event counted. An unused `Pass` is left for each
-- other build, and an empty event list for each seat still to make. There is memory for all seats.
abbrev pub invariant-loop-trail : goal.invariant-loop-trail
invariant-loop-trail g l =
    (l.seats.items ≡ map new_seat (range_with_len 0 (vec_len l.seats)))
    × (array_into_iter_items l.passes ≡ map unused (range_with_len (vec_len l.seats) (8 - vec_len l.seats)))
    × (l.trails.items ≡ replicate (vec_len l.trails) [])
    × (vec_len l.trails + vec_len l.seats ≡ vec_len l.initial.trails)
    × (vec_len l.initial.trails ≤ vec_capacity l.seats)

abbrev pub decreases-loop-trail : goal.decreases-loop-trail
decreases-loop-trail g l = vec_len l.trails

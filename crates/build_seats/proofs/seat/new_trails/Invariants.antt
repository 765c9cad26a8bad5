use Rattle.std.proofs.Common.{◌≡◌, ◌≤◌, [], replicate, vec_capacity, vec_len}
use Rattle.build_seats.proofs.seat.new_trails.Given as goal

-- `_i` empty event lists have been made, and there is memory for `count` lists
abbrev pub invariant-loop-i : goal.invariant-loop-i
invariant-loop-i g l = record {
  trails : l.trails.items ≡ replicate l._i [];
  len : vec_len l.trails ≡ l._i;
  room : l.count ≤ vec_capacity l.trails;
}

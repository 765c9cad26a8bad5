use Rattle.std.proofs.Common.{◌≡◌, take}
use Rattle.build_seats.proofs.client.clone_numbers.Given as goal

abbrev pub invariant-loop-number : goal.invariant-loop-number
invariant-loop-number l = l.clone.items ≡ take l.number-index l.numbers

use Rattle.std.proofs.Common.{◌≡◌, ◌+◌, ◌*◌, ◌^◌, ◌<◌, ◌≤◌, length, All}
use Rattle.schedule_graph.specs.Number.{number_of}
use Rattle.schedule_graph.proofs.number.push_carry.Given as goal

abbrev pub invariant-loop-carry : goal.invariant-loop-carry
invariant-loop-carry l =
    (number_of l.digits.items + l.carry * 10 ^ length l.digits.items ≡ number_of l.fn.digits.items + l.fn.carry * 10 ^ length l.fn.digits.items)
    × All (λ digit. digit < 10) l.digits.items
    × (length l.fn.digits.items ≤ length l.digits.items)

abbrev pub decreases-loop-carry : goal.decreases-loop-carry
decreases-loop-carry l = l.carry

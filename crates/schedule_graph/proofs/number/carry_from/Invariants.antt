use Rattle.std.proofs.Common.{◌≡◌, ◌+◌, ◌*◌, ◌^◌, ◌<◌, ◌≤◌, length, All}
use Rattle.schedule_graph.specs.Number.{number_of}
use Rattle.schedule_graph.proofs.number.carry_from.Given as goal

abbrev pub invariant-loop-at : goal.invariant-loop-at
invariant-loop-at l =
    (number_of l.digits + l.carry * 10 ^ l.at ≡ number_of l.fn.digits + l.amount * 10 ^ l.place)
    × All (λ digit. digit < 10) l.digits
    × (length l.digits ≡ length l.fn.digits)
    × (l.carry ≤ 81)

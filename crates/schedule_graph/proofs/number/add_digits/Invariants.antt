use Rattle.std.proofs.Common.{◌≡◌, ◌+◌, ◌<◌, ◌≤◌, length, take, All}
use Rattle.schedule_graph.specs.Number.{number_of}
use Rattle.schedule_graph.proofs.number.add_digits.Given as goal

abbrev pub invariant-loop-place : goal.invariant-loop-place
invariant-loop-place l =
    (number_of l.digits.items ≡ number_of l.fn.digits.items + number_of (take l.place l.more))
    × All (λ digit. digit < 10) l.digits.items
    × (length l.more ≤ length l.digits.items)

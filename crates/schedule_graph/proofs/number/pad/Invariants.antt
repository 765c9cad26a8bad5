use Rattle.std.proofs.Common.{◌≡◌, ◌<◌, ◌≤◌, length, All}
use Rattle.schedule_graph.specs.Number.{number_of}
use Rattle.schedule_graph.proofs.number.pad.Given as goal

abbrev pub invariant-loop-place : goal.invariant-loop-place
invariant-loop-place l =
    (number_of l.digits.items ≡ number_of l.fn.digits.items) × All (λ digit. digit < 10) l.digits.items × (l._place ≤ length l.digits.items)

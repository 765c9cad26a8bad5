use Rattle.std.proofs.Common.{◌≡◌, ◌≤◌, length, take}
use Rattle.schedule_graph.specs.Number.{trimmed}
use Rattle.schedule_graph.proofs.number.trimmed.Given as goal

abbrev pub invariant-loop-place : goal.invariant-loop-place
invariant-loop-place l = (l.count ≡ length (trimmed (take l.place l.digits))) × (l.count ≤ length l.digits)

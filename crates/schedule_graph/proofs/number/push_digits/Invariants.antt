use Rattle.std.proofs.Common.{◌≡◌, ◌+◌, ◌++◌, map, reverse, take, string_bytes}
use Rattle.schedule_graph.proofs.number.push_digits.Given as goal

abbrev pub invariant-loop-done : goal.invariant-loop-done
invariant-loop-done l = string_bytes l.text ≡ string_bytes l.fn.text ++ map (λ digit. 48 + digit) (take l.done (reverse l.digits))

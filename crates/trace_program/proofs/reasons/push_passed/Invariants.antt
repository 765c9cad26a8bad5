use Rattle.std.proofs.Common.{string_bytes}
use Rattle.trace_program.specs.Refusal.{Extends}
use Rattle.trace_program.proofs.reasons.push_passed.Given as goal

abbrev pub invariant-loop-row : goal.invariant-loop-row
invariant-loop-row l = Extends (string_bytes l.fn.text) (string_bytes l.text)

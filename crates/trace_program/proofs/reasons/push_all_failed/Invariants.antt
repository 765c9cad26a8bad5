use Rattle.std.proofs.Common.{drop, string_bytes}
use Rattle.trace_program.proofs.Deciding.{Tells}
use Rattle.trace_program.proofs.reasons.push_all_failed.Given as goal

abbrev pub invariant-loop-row : goal.invariant-loop-row
invariant-loop-row l = Tells l.rows (drop l.row-index l.rows) l.is_first (string_bytes l.fn.text) (string_bytes l.text)

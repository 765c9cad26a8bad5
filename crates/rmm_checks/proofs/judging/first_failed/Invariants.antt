use Rattle.std.proofs.Common.{◌≡◌, drop}
use Rattle.rmm_checks.specs.Evaluated.{first_failed}
use Rattle.rmm_checks.proofs.judging.first_failed.Given as goal

abbrev pub invariant-loop-row : goal.invariant-loop-row
invariant-loop-row l = first_failed (drop l.row-index l.rows) ≡ first_failed l.rows

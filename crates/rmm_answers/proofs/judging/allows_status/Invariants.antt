use Rattle.std.proofs.Common.{◌≡◌, drop}
use Rattle.std.specs.List.{list_any}
use Rattle.rmm_answers.specs.Judging.{has_status}
use Rattle.rmm_answers.proofs.judging.allows_status.Given as goal

abbrev pub invariant-loop-row : goal.invariant-loop-row
invariant-loop-row l = list_any (λ row. has_status l.checks l.status row.outcome) (drop l.row-index l.rows) ≡ list_any (λ row. has_status l.checks l.status row.outcome) l.rows

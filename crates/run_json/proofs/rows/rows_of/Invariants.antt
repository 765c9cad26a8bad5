use Rattle.std.proofs.Common.{◌-◌}
use Rattle.std.specs.Prelude.{◌^◌}
use Rattle.host_ledger.specs.View.{world_of}
use Rattle.run_json.proofs.RowRuns.{IsSoFar}
use Rattle.run_json.proofs.rows.rows_of.Given as goal

abbrev pub invariant-loop-row : goal.invariant-loop-row
invariant-loop-row g l = IsSoFar (world_of l.host) l.build l.next l.items.items

abbrev pub decreases-loop-row : goal.decreases-loop-row
decreases-loop-row g l = 2 ^ 32 - l.next

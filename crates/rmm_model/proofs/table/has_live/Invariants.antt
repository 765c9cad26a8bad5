use Rattle.std.proofs.Common.{◌≡◌, ◌*◌}
use Rattle.rmm_model.specs.Table.{first_live_from}
use Rattle.rmm_model.proofs.table.has_live.Given as goal

abbrev pub invariant-loop-k : goal.invariant-loop-k
invariant-loop-k l = first_live_from l.page (8 * l.k) ≡ first_live_from l.page 0

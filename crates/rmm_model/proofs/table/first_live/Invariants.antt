use Rattle.std.proofs.Common.{◌≡◌, ◌-◌}
use Rattle.rmm_model.specs.Table.{first_live}
use Rattle.rmm_model.proofs.table.first_live.Given as goal

abbrev pub invariant-loop-index : goal.invariant-loop-index
invariant-loop-index l = first_live l.page (512 - l.index) l.index ≡ first_live l.page (512 - l.from) l.from

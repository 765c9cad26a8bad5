use Rattle.std.proofs.Common.{◌≡◌, ◌-◌}
use Rattle.rmm_model.specs.Table.{has_parts}
use Rattle.rmm_model.proofs.table.has_parts.Given as goal

abbrev pub invariant-loop-index : goal.invariant-loop-index
invariant-loop-index l = has_parts l.page l.fn.whole l.level (512 - l.index) l.index ≡ has_parts l.page l.fn.whole l.level 512 0

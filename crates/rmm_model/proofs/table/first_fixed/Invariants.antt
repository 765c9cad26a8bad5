use Rattle.std.proofs.Common.{◌≡◌, ◌-◌}
use Rattle.rmm_model.specs.Table.{first_fixed}
use Rattle.rmm_model.proofs.table.first_fixed.Given as goal

abbrev pub invariant-loop-index : goal.invariant-loop-index
invariant-loop-index l =
    first_fixed l.changeable l.page (l.end - l.index) l.index ≡ first_fixed l.changeable l.page (l.end - l.from) l.from

use Rattle.std.proofs.Common.{not, ap}
use Rattle.rmm_checks.proofs.Rows.{on, told}
use Rattle.rmm_checks.proofs.operand.add_address.Goals as goal

pub returns-clause-rows : goal.returns-clause-rows
returns-clause-rows g c =
    on (told (ap not c.is_aligned.ensures) c.input.ensures.rows) (told (ap not c.is_inside.ensures) c.input-2.ensures.rows)

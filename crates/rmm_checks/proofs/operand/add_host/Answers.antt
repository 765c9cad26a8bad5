use Rattle.std.proofs.Common.{not, ap}
use Rattle.rmm_checks.proofs.Rows.{on, told}
use Rattle.rmm_checks.proofs.operand.add_host.Goals as goal

pub returns-clause-rows : goal.returns-clause-rows
returns-clause-rows g c =
    on (c.add_address.ensures.rows) (told (ap not c.is_host.ensures) c.input.ensures.rows)

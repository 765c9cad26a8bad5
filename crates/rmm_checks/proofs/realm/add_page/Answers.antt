use Rattle.std.proofs.Common.{not, ap}
use Rattle.rmm_checks.proofs.Rows.{on, told}
use Rattle.rmm_checks.proofs.realm.add_page.Goals as goal

pub returns-clause-rows : goal.returns-clause-rows
returns-clause-rows g c =
    on (told (ap not c.is_aligned.ensures) c.input.ensures.rows) (told (ap not c.is_protected.ensures) c.input-2.ensures.rows)

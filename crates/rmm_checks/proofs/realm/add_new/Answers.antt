use Rattle.std.proofs.Common.{not, ap}
use Rattle.rmm_checks.proofs.Rows.{told}
use Rattle.rmm_checks.proofs.realm.add_new.Goals as goal

pub returns-clause-rows : goal.returns-clause-rows
returns-clause-rows g c = told (ap not c.is_new_at.ensures) c.realm.ensures.rows

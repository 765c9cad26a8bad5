use Rattle.std.proofs.Common.{ap, ◌∙◌, is_none}
use Rattle.rmm_checks.proofs.Rows.{on, told, none_told}
use Rattle.rmm_checks.proofs.realm.add_rd.Goals as goal

pub returns-clause-rows : goal.returns-clause-rows
returns-clause-rows g c =
    on (c.add_address.ensures.rows) (told (none_told c.realm_named-realm.result c.is_none.result c.is_none.ensures ∙ ap is_none c.realm_named-realm.ensures.value) c.input.ensures.rows)

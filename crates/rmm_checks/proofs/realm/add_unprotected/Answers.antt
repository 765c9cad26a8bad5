use Rattle.std.proofs.Common.{not, ap, ◌∙◌}
use Rattle.rmm_model.specs.Command.Operand.{is_multiple}
use Rattle.rmm_checks.proofs.Rows.{on, told}
use Rattle.rmm_checks.proofs.realm.add_unprotected.Goals as goal

pub returns-clause-rows : goal.returns-clause-rows
returns-clause-rows g c =
    on (on (told (ap not c.is_block_level.ensures) c.input.ensures.rows) (told (ap not (c.is_multiple.ensures ∙ ap (is_multiple c.args.ipa) c.size_of.ensures.value)) c.input-2.ensures.rows)) (told (ap not c.is_unprotected.ensures) c.input-3.ensures.rows)

use Rattle.std.proofs.Common.{not, ap, ◌∙◌}
use Rattle.rmm_model.specs.Level.{entry_size}
use Rattle.rmm_model.specs.Command.Operand.{is_multiple}
use Rattle.rmm_checks.proofs.Rows.{on, told}
use Rattle.rmm_checks.proofs.realm.add_ipa.Goals as goal

pub returns-clause-rows : goal.returns-clause-rows
returns-clause-rows g c =
    on (on (told (ap not c.is_level.ensures) c.input.ensures.rows) (told (ap not (c.is_multiple.ensures ∙ ap (is_multiple c.args.ipa) (c.size_of-size.ensures.value ∙ ap entry_size c.saturating_sub.ensures))) c.input-2.ensures.rows)) (told (ap not c.is_in_space.ensures) c.input-3.ensures.rows)

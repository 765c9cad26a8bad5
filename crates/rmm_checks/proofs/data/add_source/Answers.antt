use Rattle.std.proofs.Common.{not, ap, ◌∙◌}
use Rattle.rmi_abi.specs.declared.settings.RmmSettings.{RmmSettings}
use Rattle.rmm_model.specs.Command.DataCreate.{source_checks, are_flags_valid}
use Rattle.rmm_checks.proofs.Rows.{on, told}
use Rattle.rmm_checks.proofs.data.add_source.Goals as goal

pub returns-clause-rows : goal.returns-clause-rows
unfolding source_checks
returns-clause-rows g c =
    on
    (on (told (ap not (c.are_flags_valid-valid.ensures ∙ ap (λ (s : RmmSettings). are_flags_valid s c.args.flags) c.settings-settings.ensures.value)) c.input.ensures.rows)
    c.add_host.ensures.rows)
    c.add_delegated.ensures.rows

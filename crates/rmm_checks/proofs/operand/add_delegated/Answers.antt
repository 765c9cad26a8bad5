use Rattle.std.proofs.Common.{not, ap, ◌∙◌}
use Rattle.rmm_model.specs.Granule.{is_delegated}
use Rattle.rmm_checks.proofs.Rows.{on, told}
use Rattle.rmm_checks.proofs.operand.add_delegated.Goals as goal

pub returns-clause-rows : goal.returns-clause-rows
returns-clause-rows g c =
    on (c.add_address.ensures.rows) (told (ap not (c.is_delegated.ensures ∙ ap is_delegated c.state_at-state.ensures)) c.input.ensures.rows)

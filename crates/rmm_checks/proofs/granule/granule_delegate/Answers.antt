use Rattle.std.proofs.Common.{not, ap, ◌∙◌}
use Rattle.rmm_model.specs.Command.GranuleDelegate.{granule_delegate}
use Rattle.rmm_model.specs.Granule.{is_undelegated}
use Rattle.rmm_checks.proofs.Rows.{on, told, from_none}
use Rattle.rmm_checks.proofs.granule.granule_delegate.Goals as goal

pub returns : goal.returns
unfolding granule_delegate
returns g c =
    from_none c.new-checks.ensures
    (on (on (c.add_address.ensures.rows) (told (ap not (c.is_undelegated.ensures ∙ ap is_undelegated c.state_at-state.ensures)) c.input.ensures.rows)) (told (c.is_secure.ensures) c.input-2.ensures.rows))

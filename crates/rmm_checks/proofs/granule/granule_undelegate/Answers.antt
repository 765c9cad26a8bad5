use Rattle.rmm_model.specs.Command.GranuleUndelegate.{granule_undelegate}
use Rattle.rmm_checks.proofs.Rows.{from_none}
use Rattle.rmm_checks.proofs.granule.granule_undelegate.Goals as goal

pub returns : goal.returns
unfolding granule_undelegate
returns g c =
    from_none c.new-checks.ensures
    (c.add_delegated.ensures.rows)

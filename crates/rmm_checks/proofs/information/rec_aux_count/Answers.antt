use Rattle.rmm_model.specs.Command.RecAuxCount.{rec_aux_count}
use Rattle.rmm_checks.proofs.Rows.{from_none}
use Rattle.rmm_checks.proofs.information.rec_aux_count.Goals as goal

pub returns : goal.returns
unfolding rec_aux_count
returns g c =
    from_none c.new-checks.ensures
    (c.add_rd.ensures.rows)

use Rattle.std.proofs.Common.{ap, ◌∙◌}
use Rattle.rmm_model.specs.Command.RecDestroy.{rec_destroy}
use Rattle.rmm_model.specs.declared.rec.RmmRec.{RmmRec}
use Rattle.rmm_model.specs.Rec.{is_running}
use Rattle.rmm_checks.proofs.Rows.{on, told, from_none}
use Rattle.rmm_checks.proofs.rec.rec_destroy.Goals as goal

pub returns : goal.returns
unfolding rec_destroy
returns g c =
    from_none c.new-checks.ensures
    (on (c.add_rec.ensures.rows) (told (c.is_running.ensures ∙ ap (λ (r : RmmRec). is_running r.state) c.rec_at-found.ensures) c.rec.ensures.rows))

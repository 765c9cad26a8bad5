use Rattle.std.proofs.Common.{◌==◌, Bool, not, ap, ◌∙◌}
use Rattle.rmm_model.specs.declared.rec.RmmRec.{RmmRec}
use Rattle.rmm_model.specs.Rec.{is_running}
use Rattle.rmm_model.specs.Command.Operand.{realm_at, rec_at}
use Rattle.rmm_model.specs.Command.RttSetRipas.{ripas_request_checks, is_within}
use Rattle.rmm_checks.proofs.Rows.{on, told}
use Rattle.rmm_checks.proofs.ripas.add_request.Goals as goal

pub returns-clause-rows : goal.returns-clause-rows
unfolding ripas_request_checks
returns-clause-rows g c =
    on
    (on
    (on
    (on (told (ap not c.is_aligned.ensures) c.input.ensures.rows) (told (c.is_running-runs.ensures ∙ ap (λ (r : RmmRec). is_running r.state) c.rec_at-asking.ensures) c.rec.ensures.rows))
    (told (ap not c.is_rec_of-is_owner.ensures) c.rec-2.ensures.rows))
    (told (ap not (c.begins_at-begins.ensures ∙ ap (λ (r : RmmRec). c.args.base == r.ripas.base) c.rec_at-asking.ensures)) c.input-2.ensures.rows))
    (told (ap not (c.is_within-within.ensures
    ∙ ap (λ (r : RmmRec). is_within (realm_at c.args.granules.now c.args.rd) r c.is_rec_of-is_owner.result c.args.base c.args.top) c.rec_at-asking.ensures
    ∙ ap (λ (b : Bool). is_within (realm_at c.args.granules.now c.args.rd) (rec_at c.args.granules.now c.args.rec) b c.args.base c.args.top) c.is_rec_of-is_owner.ensures)) c.input-3.ensures.rows)

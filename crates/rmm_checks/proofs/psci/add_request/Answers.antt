use Rattle.std.proofs.Common.{not, ap, ◌∙◌, ℕ, Option, ◌==◌}
use Rattle.rmm_model.specs.declared.rec.RmmRec.{RmmRec}
use Rattle.rmm_model.specs.Machine.{granule_at, number_of}
use Rattle.rmm_model.specs.Command.Operand.{rec_at}
use Rattle.rmm_model.specs.Command.PsciComplete.{request_checks, is_pending, is_same_owner, target_of, is_status}
use Rattle.rmm_checks.proofs.Rows.{on, told}
use Rattle.rmm_checks.proofs.psci.add_request.Goals as goal

pub returns-clause-rows : goal.returns-clause-rows
unfolding request_checks
returns-clause-rows g c =
    on (on (on (told (ap not (c.is_pending.ensures ∙ ap (λ (r : RmmRec). is_pending r.psci) c.rec_at-caller.ensures)) c.input.ensures.rows) (told (ap not (c.is_same_owner.ensures ∙ ap (λ (o : Option ℕ). is_same_owner o c.owner_at-second.result) c.owner_at-first.ensures ∙ ap (is_same_owner (granule_at c.args.granules.now (number_of c.args.granules.now c.args.calling)).owner) c.owner_at-second.ensures)) c.input-2.ensures.rows)) (told (ap not (c.is_same.ensures ∙ ap (λ (n : ℕ). n == c.rec_at-named.result.mpidr) (c.target_of.ensures ∙ ap (λ (r : RmmRec). target_of r.psci) c.rec_at-caller.ensures) ∙ ap (λ (r : RmmRec). target_of (rec_at c.args.granules.now c.args.calling).psci == r.mpidr) c.rec_at-named.ensures)) c.input-3.ensures.rows)) (told (ap not (c.is_status.ensures ∙ ap (λ (r : RmmRec). is_status r.psci c.args.status) c.rec_at-caller.ensures)) c.input-4.ensures.rows)

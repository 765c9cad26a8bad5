use Rattle.std.proofs.Common.{not, refl, ap, ◌∙◌}
use Rattle.rmi_abi.specs.declared.realm_params.RealmParams.{RealmParams}
use Rattle.rmm_model.specs.declared.condition.Condition.TheVariants.{ParamsPas}
use Rattle.rmm_model.specs.Command.RealmCreate.{can_start, is_vmid_valid}
use Rattle.rmm_checks.proofs.Rows.{on}
use Rattle.rmm_checks.proofs.Walked.{told_where, made_before}
use Rattle.rmm_checks.proofs.realm_create.add_free.Goals as goal

pub returns-clause-rows : goal.returns-clause-rows
returns-clause-rows g c q aligned read =
    let m = c.args.granules.now in
    on
    (told_where (λ made. (ap not (c.can_start-usable.ensures.value ∙ ap (can_start m) (aligned made)), refl)) c.input.ensures.rows)
    (told_where (λ made. (ap not (c.is_vmid_valid-valid.ensures ∙ ap (λ (p : RealmParams). is_vmid_valid m p.vmid) (read (made_before ParamsPas refl c.input.ensures.rows made))), refl)) c.input-2.ensures.rows)

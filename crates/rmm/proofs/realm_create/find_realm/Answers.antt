use Rattle.std.proofs.Common.{◌≡◌, Some, ap, ◌∙◌, rules}
use Rattle.rmi_abi.specs.declared.settings.RmmSettings.{RmmSettings}
use Rattle.rmm_model.specs.Check.{first_failing}
use Rattle.rmm_model.specs.Command.RealmCreate.{realm_create, params_checks}
use Rattle.rmm.proofs.NewRealms.{source_fails, params_fail, rd_fails, by_free}
use Rattle.rmm.proofs.realm_create.find_realm.Goals as goal

pub returns-in_err-p-clause-refusal : goal.returns-in_err-p-clause-refusal
returns-in_err-p-clause-refusal g c =
    let fails : Some c.in_err-p.field-0.0 ≡ first_failing (realm_create c.args.rd c.args.params c.args.granules.now).checks =
    source_fails c.args.granules.now c.args.rd c.args.params c.in_err-p.field-0.0 c.in_err-p.ensures.refusal in
    search rules

pub returns-in_err-check_params-clause-refusal : goal.returns-in_err-check_params-clause-refusal
returns-in_err-check_params-clause-refusal g c =
    let fails : Some c.in_err-check_params.field-0.0 ≡ first_failing (realm_create c.args.rd c.args.params c.args.granules.now).checks =
    params_fail c.args.granules.now c.args.rd c.args.params c.in_ok-p.p c.in_ok-p.ensures.value c.in_ok-p.ensures.refusal c.in_err-check_params.field-0.0
    (c.in_err-check_params.ensures.refusal ∙ ap (λ (s : RmmSettings). first_failing (params_checks s c.in_ok-p.p c.args.rd)) c.settings.ensures.value) in
    search rules

pub returns-in_err-granule-clause-refusal : goal.returns-in_err-granule-clause-refusal
returns-in_err-granule-clause-refusal g c =
    let fails : Some c.in_err-granule.field-0.0 ≡ first_failing (realm_create c.args.rd c.args.params c.args.granules.now).checks =
    rd_fails c.args.granules.now c.args.rd c.args.params c.in_ok-p.p c.in_ok-p.ensures.value c.in_ok-p.ensures.refusal
    (c.in_ok-check_params.ensures.refusal ∙ ap (λ (s : RmmSettings). first_failing (params_checks s c.in_ok-p.p c.args.rd)) c.settings.ensures.value)
    c.in_err-granule.field-0.0 c.in_err-granule.ensures.refusal in
    search rules

pub returns-in_err-check_free-clause-refusal : goal.returns-in_err-check_free-clause-refusal
returns-in_err-check_free-clause-refusal g c =
    let fails : Some c.in_err-check_free.field-0.0 ≡ first_failing (realm_create c.args.rd c.args.params c.args.granules.now).checks =
    c.in_err-check_free.ensures.refusal
    ∙ by_free c.args.granules.now c.args.rd c.args.params c.in_ok-p.p c.in_ok-p.ensures.value c.in_ok-p.ensures.refusal
    (c.in_ok-check_params.ensures.refusal ∙ ap (λ (s : RmmSettings). first_failing (params_checks s c.in_ok-p.p c.args.rd)) c.settings.ensures.value)
    c.in_ok-granule.ensures.refusal in
    search rules

pub returns-clause-refusal : goal.returns-clause-refusal
returns-clause-refusal g c =
    c.in_ok-check_free.ensures.refusal
    ∙ by_free c.args.granules.now c.args.rd c.args.params c.in_ok-p.p c.in_ok-p.ensures.value c.in_ok-p.ensures.refusal
    (c.in_ok-check_params.ensures.refusal ∙ ap (λ (s : RmmSettings). first_failing (params_checks s c.in_ok-p.p c.args.rd)) c.settings.ensures.value)
    c.in_ok-granule.ensures.refusal

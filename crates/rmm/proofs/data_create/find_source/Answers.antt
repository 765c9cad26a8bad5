use Rattle.std.proofs.Common.{◌≡◌, List, ◌++◌, ◌∙◌, Some, ap, rules}
use Rattle.rmi_abi.specs.declared.settings.RmmSettings.{RmmSettings}
use Rattle.rmm_model.specs.declared.condition.Condition.TheVariants.{SrcAlign, SrcBound, SrcPas, DataAlign, DataBound, DataState}
use Rattle.rmm_model.specs.Check.{Check, first_failing}
use Rattle.rmm_model.specs.Command.DataCreate.{source_checks}
use Rattle.rmm_model.specs.Command.Operand.{host_checks, delegated_checks}
use Rattle.rmm.specs.NewPages.{flags_checks}
use Rattle.rmm.proofs.Checks.{failed, passed}
use Rattle.rmm.proofs.data_create.find_source.Goals as goal

pub returns-in_err-check_flags-clause-refusal : goal.returns-in_err-check_flags-clause-refusal
unfolding source_checks
returns-in_err-check_flags-clause-refusal g c =
    let m = c.args.granules.now in
    let flags : List Check = flags_checks m.settings c.args.flags in
    let host : List Check = host_checks SrcAlign SrcBound SrcPas m c.args.source in
    let mine : List Check = delegated_checks DataAlign DataBound DataState m c.args.page in
    let fails : Some c.in_err-check_flags.field-0.0 ≡ first_failing (source_checks m c.args.page c.args.source c.args.flags) =
    failed (flags ++ host) mine c.in_err-check_flags.field-0.0 (failed flags host c.in_err-check_flags.field-0.0 (c.in_err-check_flags.ensures ∙ ap (λ (s : RmmSettings). first_failing (flags_checks s c.args.flags)) c.settings.ensures.value)) in
    search rules

pub returns-in_err-source-clause-refusal : goal.returns-in_err-source-clause-refusal
unfolding source_checks
returns-in_err-source-clause-refusal g c =
    let m = c.args.granules.now in
    let flags : List Check = flags_checks m.settings c.args.flags in
    let host : List Check = host_checks SrcAlign SrcBound SrcPas m c.args.source in
    let mine : List Check = delegated_checks DataAlign DataBound DataState m c.args.page in
    let fails : Some c.in_err-source.field-0.0 ≡ first_failing (source_checks m c.args.page c.args.source c.args.flags) =
    failed (flags ++ host) mine c.in_err-source.field-0.0 (c.in_err-source.ensures.refusal ∙ passed flags host (c.in_ok-check_flags.ensures ∙ ap (λ (s : RmmSettings). first_failing (flags_checks s c.args.flags)) c.settings.ensures.value)) in
    search rules

pub returns-in_err-granule-clause-refusal : goal.returns-in_err-granule-clause-refusal
unfolding source_checks
returns-in_err-granule-clause-refusal g c =
    let m = c.args.granules.now in
    let flags : List Check = flags_checks m.settings c.args.flags in
    let host : List Check = host_checks SrcAlign SrcBound SrcPas m c.args.source in
    let mine : List Check = delegated_checks DataAlign DataBound DataState m c.args.page in
    let fails : Some c.in_err-granule.field-0.0 ≡ first_failing (source_checks m c.args.page c.args.source c.args.flags) =
    c.in_err-granule.ensures.refusal ∙ passed (flags ++ host) mine (c.in_ok-source.ensures.refusal ∙ passed flags host (c.in_ok-check_flags.ensures ∙ ap (λ (s : RmmSettings). first_failing (flags_checks s c.args.flags)) c.settings.ensures.value)) in
    search rules

pub returns-clause-refusal : goal.returns-clause-refusal
unfolding source_checks
returns-clause-refusal g c =
    let m = c.args.granules.now in
    let flags : List Check = flags_checks m.settings c.args.flags in
    let host : List Check = host_checks SrcAlign SrcBound SrcPas m c.args.source in
    let mine : List Check = delegated_checks DataAlign DataBound DataState m c.args.page in
    c.in_ok-granule.ensures.refusal ∙ passed (flags ++ host) mine (c.in_ok-source.ensures.refusal ∙ passed flags host (c.in_ok-check_flags.ensures ∙ ap (λ (s : RmmSettings). first_failing (flags_checks s c.args.flags)) c.settings.ensures.value))

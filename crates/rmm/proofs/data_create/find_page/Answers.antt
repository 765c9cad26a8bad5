use Rattle.std.proofs.Common.{◌≡◌, ◌∙◌, Some, rules}
use Rattle.rmm_model.specs.Check.{first_failing}
use Rattle.rmm_model.specs.Command.DataCreate.{data_create, source_checks, target_checks}
use Rattle.rmm.proofs.Checks.{failed, passed}
use Rattle.rmm.proofs.data_create.find_page.Goals as goal

pub returns-in_err-source-clause-refusal : goal.returns-in_err-source-clause-refusal
unfolding data_create
returns-in_err-source-clause-refusal g c =
    let m = c.args.granules.now in
    let fails : Some c.in_err-source.field-0.0 ≡ first_failing (data_create c.args.rd c.args.page c.args.ipa c.args.source c.args.flags m).checks =
    failed (source_checks m c.args.page c.args.source c.args.flags) (target_checks m c.args.rd c.args.ipa) c.in_err-source.field-0.0 c.in_err-source.ensures.refusal in
    search rules

pub returns-in_err-target-clause-refusal : goal.returns-in_err-target-clause-refusal
unfolding data_create
returns-in_err-target-clause-refusal g c =
    let m = c.args.granules.now in
    let fails : Some c.in_err-target.field-0.0 ≡ first_failing (data_create c.args.rd c.args.page c.args.ipa c.args.source c.args.flags m).checks =
    c.in_err-target.ensures.refusal ∙ passed (source_checks m c.args.page c.args.source c.args.flags) (target_checks m c.args.rd c.args.ipa) c.in_ok-source.ensures.refusal in
    search rules

pub returns-clause-refusal : goal.returns-clause-refusal
unfolding data_create
returns-clause-refusal g c =
    let m = c.args.granules.now in
    c.in_ok-target.ensures.refusal ∙ passed (source_checks m c.args.page c.args.source c.args.flags) (target_checks m c.args.rd c.args.ipa) c.in_ok-source.ensures.refusal

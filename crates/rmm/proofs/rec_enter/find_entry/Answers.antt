use Rattle.std.proofs.Common.{◌≡◌, ℕ, ◌++◌, List, Some, ◌∙◌, rules}
use Rattle.rmi_abi.specs.RecRun.{flags_in}
use Rattle.rmm_model.specs.declared.condition.Condition.TheVariants.{RunAlign, RunBound, RunPas, RecAlign, RecBound, RecGranState}
use Rattle.rmm_model.specs.Check.{Check, first_failing}
use Rattle.rmm_model.specs.Machine.{number_of, page_in}
use Rattle.rmm_model.specs.Command.Operand.{host_checks, rec_checks, rec_at}
use Rattle.rmm_model.specs.Command.RecEnter.{rec_enter, enter_checks, is_gic_wrong, state_of, owner_realm}
use Rattle.rmm.proofs.Checks.{passed, failed}
use Rattle.rmm.proofs.rec_enter.find_entry.Goals as goal

pub returns-in_err-run-clause-refusal : goal.returns-in_err-run-clause-refusal
unfolding rec_enter
returns-in_err-run-clause-refusal g c =
    let m = c.args.granules.now in
    let first : List Check = host_checks RunAlign RunBound RunPas m c.args.address in
    let second : List Check = rec_checks RecAlign RecBound RecGranState m c.args.rec in
    let page : List ℕ = page_in m (number_of m c.args.address) in
    let third : List Check = enter_checks (state_of (owner_realm m (number_of m c.args.rec))) (rec_at m c.args.rec) (flags_in page) (is_gic_wrong m.settings page) in
    let fails : Some c.in_err-run.field-0.0 ≡ first_failing (rec_enter c.args.rec c.args.address m).checks =
    failed (first ++ second) third c.in_err-run.field-0.0 (failed first second c.in_err-run.field-0.0 c.in_err-run.ensures.refusal) in
    search rules

pub returns-in_err-found-clause-refusal : goal.returns-in_err-found-clause-refusal
unfolding rec_enter
returns-in_err-found-clause-refusal g c =
    let m = c.args.granules.now in
    let first : List Check = host_checks RunAlign RunBound RunPas m c.args.address in
    let second : List Check = rec_checks RecAlign RecBound RecGranState m c.args.rec in
    let page : List ℕ = page_in m (number_of m c.args.address) in
    let third : List Check = enter_checks (state_of (owner_realm m (number_of m c.args.rec))) (rec_at m c.args.rec) (flags_in page) (is_gic_wrong m.settings page) in
    let fails : Some c.in_err-found.field-0.0 ≡ first_failing (rec_enter c.args.rec c.args.address m).checks =
    failed (first ++ second) third c.in_err-found.field-0.0 (c.in_err-found.ensures.refusal ∙ passed first second c.in_ok-run.ensures.refusal) in
    search rules

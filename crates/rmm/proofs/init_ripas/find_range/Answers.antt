use Rattle.std.proofs.Common.{◌≡◌, ◌∙◌, Some, rules}
use Rattle.rmm_model.specs.Check.{first_failing}
use Rattle.rmm_model.specs.Command.RttInitRipas.{rtt_init_ripas}
use Rattle.rmm.proofs.Ranges.{size_fails, rd_fails, range_fails, by_progress}
use Rattle.rmm.proofs.init_ripas.find_range.Goals as goal

pub returns-in_err-check_size-clause-refusal : goal.returns-in_err-check_size-clause-refusal
returns-in_err-check_size-clause-refusal g c =
    let fails : Some c.in_err-check_size.field-0.0 ≡ first_failing (rtt_init_ripas c.args.rd c.args.base c.args.top c.args.granules.now).checks =
    size_fails c.args.granules.now c.args.rd c.args.base c.args.top c.in_err-check_size.field-0.0 c.in_err-check_size.ensures.refusal in
    search rules

pub returns-in_err-owner-clause-refusal : goal.returns-in_err-owner-clause-refusal
returns-in_err-owner-clause-refusal g c =
    let fails : Some c.in_err-owner.field-0.0 ≡ first_failing (rtt_init_ripas c.args.rd c.args.base c.args.top c.args.granules.now).checks =
    rd_fails c.args.granules.now c.args.rd c.args.base c.args.top c.in_ok-check_size.ensures.refusal c.in_err-owner.field-0.0 c.in_err-owner.ensures.refusal in
    search rules

pub returns-in_err-check_range-clause-refusal : goal.returns-in_err-check_range-clause-refusal
returns-in_err-check_range-clause-refusal g c =
    let fails : Some c.in_err-check_range.field-0.0 ≡ first_failing (rtt_init_ripas c.args.rd c.args.base c.args.top c.args.granules.now).checks =
    range_fails c.args.granules.now c.args.rd c.args.base c.args.top c.in_ok-check_size.ensures.refusal c.in_ok-owner.ensures.refusal c.in_ok-owner.owner.realm c.in_ok-owner.ensures.realm
    c.in_err-check_range.field-0.0 c.in_err-check_range.ensures.refusal in
    search rules

pub returns-in_err-check_progress-clause-refusal : goal.returns-in_err-check_progress-clause-refusal
returns-in_err-check_progress-clause-refusal g c =
    let fails : Some c.in_err-check_progress.field-0.0 ≡ first_failing (rtt_init_ripas c.args.rd c.args.base c.args.top c.args.granules.now).checks =
    c.in_err-check_progress.ensures
    ∙ by_progress c.args.granules.now c.args.rd c.args.base c.args.top c.in_ok-check_size.ensures.refusal c.in_ok-owner.ensures.refusal c.in_ok-owner.owner.realm c.in_ok-owner.ensures.realm
    c.in_ok-check_range.ensures.refusal c.walk-found.result c.walk-found.ensures.value c.settings.result.now c.settings.ensures.value c.init_changeable.result c.init_changeable.ensures in
    search rules

pub returns-clause-refusal : goal.returns-clause-refusal
returns-clause-refusal g c =
    c.in_ok-check_progress.ensures
    ∙ by_progress c.args.granules.now c.args.rd c.args.base c.args.top c.in_ok-check_size.ensures.refusal c.in_ok-owner.ensures.refusal c.in_ok-owner.owner.realm c.in_ok-owner.ensures.realm
    c.in_ok-check_range.ensures.refusal c.walk-found.result c.walk-found.ensures.value c.settings.result.now c.settings.ensures.value c.init_changeable.result c.init_changeable.ensures

use Rattle.std.proofs.Common.{◌≡◌, ◌∙◌, Some, rules}
use Rattle.rmm_model.specs.Check.{first_failing}
use Rattle.rmm_model.specs.Command.RttSetRipas.{rtt_set_ripas}
use Rattle.rmm.proofs.RequestedRanges.{size_fails, rd_fails, rec_fails, request_fails, by_progress}
use Rattle.rmm.proofs.set_ripas.find_range.Goals as goal

pub returns-in_err-check_size-clause-refusal : goal.returns-in_err-check_size-clause-refusal
returns-in_err-check_size-clause-refusal g c =
    let fails : Some c.in_err-check_size.field-0.0 ≡ first_failing (rtt_set_ripas c.args.rd c.args.rec c.args.base c.args.top c.args.granules.now).checks =
    size_fails c.args.granules.now c.args.rd c.args.rec c.args.base c.args.top c.in_err-check_size.field-0.0 c.in_err-check_size.ensures.refusal in
    search rules

pub returns-in_err-owner-clause-refusal : goal.returns-in_err-owner-clause-refusal
returns-in_err-owner-clause-refusal g c =
    let fails : Some c.in_err-owner.field-0.0 ≡ first_failing (rtt_set_ripas c.args.rd c.args.rec c.args.base c.args.top c.args.granules.now).checks =
    rd_fails c.args.granules.now c.args.rd c.args.rec c.args.base c.args.top c.in_ok-check_size.ensures.refusal c.in_err-owner.field-0.0 c.in_err-owner.ensures.refusal in
    search rules

pub returns-in_err-asking-clause-refusal : goal.returns-in_err-asking-clause-refusal
returns-in_err-asking-clause-refusal g c =
    let fails : Some c.in_err-asking.field-0.0 ≡ first_failing (rtt_set_ripas c.args.rd c.args.rec c.args.base c.args.top c.args.granules.now).checks =
    rec_fails c.args.granules.now c.args.rd c.args.rec c.args.base c.args.top c.in_ok-check_size.ensures.refusal c.in_ok-owner.ensures.refusal c.in_err-asking.field-0.0 c.in_err-asking.ensures.refusal in
    search rules

pub returns-in_err-check_request-clause-refusal : goal.returns-in_err-check_request-clause-refusal
returns-in_err-check_request-clause-refusal g c =
    let fails : Some c.in_err-check_request.field-0.0 ≡ first_failing (rtt_set_ripas c.args.rd c.args.rec c.args.base c.args.top c.args.granules.now).checks =
    request_fails c.args.granules.now c.args.rd c.args.rec c.args.base c.args.top c.in_ok-check_size.ensures.refusal c.in_ok-owner.ensures.refusal c.in_ok-asking.ensures.refusal
    c.in_ok-owner.owner.realm c.in_ok-owner.ensures.realm c.in_ok-asking.asking.rec c.in_ok-asking.ensures.rec c.is_rec_of-is_owner.result c.is_rec_of-is_owner.ensures
    c.in_err-check_request.field-0.0 c.in_err-check_request.ensures.refusal in
    search rules

pub returns-in_err-check_progress-clause-refusal : goal.returns-in_err-check_progress-clause-refusal
returns-in_err-check_progress-clause-refusal g c =
    let fails : Some c.in_err-check_progress.field-0.0 ≡ first_failing (rtt_set_ripas c.args.rd c.args.rec c.args.base c.args.top c.args.granules.now).checks =
    c.in_err-check_progress.ensures
    ∙ by_progress c.args.granules.now c.args.rd c.args.rec c.args.base c.args.top c.in_ok-check_size.ensures.refusal c.in_ok-owner.ensures.refusal c.in_ok-asking.ensures.refusal
    c.in_ok-owner.owner.realm c.in_ok-owner.ensures.realm c.in_ok-asking.asking.rec c.in_ok-asking.ensures.rec c.is_rec_of-is_owner.result c.is_rec_of-is_owner.ensures
    c.in_ok-check_request.ensures.refusal c.walk-found.result c.walk-found.ensures.value c.set_changeable.result c.set_changeable.ensures in
    search rules

pub returns-clause-refusal : goal.returns-clause-refusal
returns-clause-refusal g c =
    c.in_ok-check_progress.ensures
    ∙ by_progress c.args.granules.now c.args.rd c.args.rec c.args.base c.args.top c.in_ok-check_size.ensures.refusal c.in_ok-owner.ensures.refusal c.in_ok-asking.ensures.refusal
    c.in_ok-owner.owner.realm c.in_ok-owner.ensures.realm c.in_ok-asking.asking.rec c.in_ok-asking.ensures.rec c.is_rec_of-is_owner.result c.is_rec_of-is_owner.ensures
    c.in_ok-check_request.ensures.refusal c.walk-found.result c.walk-found.ensures.value c.set_changeable.result c.set_changeable.ensures

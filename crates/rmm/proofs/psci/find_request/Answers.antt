use Rattle.std.proofs.Common.{◌≡◌, ℕ, ◌==◌, ◌++◌, [], ◌∷◌, List, Some, sym, ap, ◌∙◌, rules}
use Rattle.rmm_model.specs.declared.condition.Condition.TheVariants.{Alias, CallingAlign, CallingBound, CallingState, TargetAlign, TargetBound, TargetState}
use Rattle.rmm_model.specs.Check.{Check, check, first_failing, error_input}
use Rattle.rmm_model.specs.declared.rec.RmmRec.{RmmRec}
use Rattle.rmm_model.specs.Machine.{Machine, number_of}
use Rattle.rmm_model.specs.Rec.{is_on}
use Rattle.rmm_model.specs.Command.Operand.{rec_checks, rec_at}
use Rattle.rmm_model.specs.Command.PsciComplete.{psci_complete, request_checks}
use Rattle.rmm.proofs.Checks.{passed, failed}
use Rattle.rmm.proofs.TwoRecs.{two_recs}
use Rattle.rmm.proofs.psci.find_request.Goals as goal

-- the checks of the request have the same first failure for the found RECs as for those that the operands name
request_refusal : (m : Machine) (a calling b target : ℕ) (r caller s named : RmmRec) (status : ℕ) → a ≡ calling → b ≡ target → r ≡ caller → s ≡ named
    → first_failing (request_checks m a r b s status) ≡ first_failing (request_checks m calling caller target named status)
request_refusal m a calling b target r caller s named status one two three four = cc

pub returns-in_err-caller-clause-refusal : goal.returns-in_err-caller-clause-refusal
unfolding psci_complete
returns-in_err-caller-clause-refusal g c =
    let m = c.args.granules.now in
    let first : List Check = check Alias [] (c.args.calling == c.args.target) error_input ∷ rec_checks CallingAlign CallingBound CallingState m c.args.calling in
    let second : List Check = rec_checks TargetAlign TargetBound TargetState m c.args.target in
    let third : List Check = request_checks m (number_of m c.args.calling) (rec_at m c.args.calling) (number_of m c.args.target) (rec_at m c.args.target) c.args.status in
    let fails : Some c.in_err-caller.field-0.0 ≡ first_failing (psci_complete c.args.calling c.args.target c.args.status m).checks =
    failed (first ++ second) third c.in_err-caller.field-0.0 (failed first second c.in_err-caller.field-0.0 c.in_err-caller.ensures.refusal) in
    search rules

pub returns-in_err-named-clause-refusal : goal.returns-in_err-named-clause-refusal
unfolding psci_complete
returns-in_err-named-clause-refusal g c =
    let m = c.args.granules.now in
    let first : List Check = check Alias [] (c.args.calling == c.args.target) error_input ∷ rec_checks CallingAlign CallingBound CallingState m c.args.calling in
    let second : List Check = rec_checks TargetAlign TargetBound TargetState m c.args.target in
    let third : List Check = request_checks m (number_of m c.args.calling) (rec_at m c.args.calling) (number_of m c.args.target) (rec_at m c.args.target) c.args.status in
    let fails : Some c.in_err-named.field-0.0 ≡ first_failing (psci_complete c.args.calling c.args.target c.args.status m).checks =
    failed (first ++ second) third c.in_err-named.field-0.0 (c.in_err-named.ensures.refusal ∙ passed first second c.in_ok-caller.ensures.refusal) in
    search rules

pub returns-in_err-check_request-clause-refusal : goal.returns-in_err-check_request-clause-refusal
unfolding psci_complete
returns-in_err-check_request-clause-refusal g c =
    let m = c.args.granules.now in
    let first : List Check = check Alias [] (c.args.calling == c.args.target) error_input ∷ rec_checks CallingAlign CallingBound CallingState m c.args.calling in
    let second : List Check = rec_checks TargetAlign TargetBound TargetState m c.args.target in
    let third : List Check = request_checks m (number_of m c.args.calling) (rec_at m c.args.calling) (number_of m c.args.target) (rec_at m c.args.target) c.args.status in
    let fails : Some c.in_err-check_request.field-0.0 ≡ first_failing (psci_complete c.args.calling c.args.target c.args.status m).checks =
    c.in_err-check_request.ensures
    ∙ request_refusal m c.in_ok-caller.caller.granule (number_of m c.args.calling) c.in_ok-named.named.granule (number_of m c.args.target) c.in_ok-caller.caller.rec (rec_at m c.args.calling) c.in_ok-named.named.rec (rec_at m c.args.target) c.args.status
    c.in_ok-caller.ensures.number c.in_ok-named.ensures.number c.in_ok-caller.ensures.rec c.in_ok-named.ensures.rec
    ∙ passed (first ++ second) third (c.in_ok-named.ensures.refusal ∙ passed first second c.in_ok-caller.ensures.refusal) in
    search rules

pub returns-clause-refusal : goal.returns-clause-refusal
unfolding psci_complete
returns-clause-refusal g c =
    let m = c.args.granules.now in
    let first : List Check = check Alias [] (c.args.calling == c.args.target) error_input ∷ rec_checks CallingAlign CallingBound CallingState m c.args.calling in
    let second : List Check = rec_checks TargetAlign TargetBound TargetState m c.args.target in
    let third : List Check = request_checks m (number_of m c.args.calling) (rec_at m c.args.calling) (number_of m c.args.target) (rec_at m c.args.target) c.args.status in
    c.in_ok-check_request.ensures
    ∙ request_refusal m c.in_ok-caller.caller.granule (number_of m c.args.calling) c.in_ok-named.named.granule (number_of m c.args.target) c.in_ok-caller.caller.rec (rec_at m c.args.calling) c.in_ok-named.named.rec (rec_at m c.args.target) c.args.status
    c.in_ok-caller.ensures.number c.in_ok-named.ensures.number c.in_ok-caller.ensures.rec c.in_ok-named.ensures.rec
    ∙ passed (first ++ second) third (c.in_ok-named.ensures.refusal ∙ passed first second c.in_ok-caller.ensures.refusal)

pub returns-clause-found : goal.returns-clause-found
returns-clause-found g c =
    let caller = c.in_ok-caller.ensures in
    let named = c.in_ok-named.ensures in
    record {
      place = caller.number;
      inside = caller.inside;
      request = ap (λ (r : RmmRec). r.psci) caller.rec;
      target_place = named.number;
      target_inside = named.inside;
      apart = λ same. two_recs c.args.granules.now c.args.calling c.args.target TargetAlign TargetBound TargetState
          caller.refusal named.refusal (sym caller.number ∙ same ∙ named.number);
      on = c.is_on.ensures ∙ ap is_on named.rec;
    }

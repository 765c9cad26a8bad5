use Rattle.std.proofs.Common.{◌≡◌, ℕ, List, Some, ap, sym, ◌∙◌, rules}
use Rattle.rmm_model.specs.Check.{first_failing}
use Rattle.rmm_model.specs.Machine.{page_in}
use Rattle.rmm_model.specs.Command.RecCreate.{rec_create, aux_checks}
use Rattle.rmm.proofs.NewRecs.{source_fails, rec_fails, rd_fails, aux_fail, by_number_of}
use Rattle.rmm.proofs.StatesDiffer.{delegated_apart}
use Rattle.rmm.proofs.rec_create.find_new.Goals as goal

pub returns-in_err-source-clause-refusal : goal.returns-in_err-source-clause-refusal
returns-in_err-source-clause-refusal g c =
    let fails : Some c.in_err-source.field-0.0 ≡ first_failing (rec_create c.args.rd c.args.rec c.args.params c.args.granules.now).checks =
    source_fails c.args.granules.now c.args.rd c.args.rec c.args.params c.in_err-source.field-0.0 c.in_err-source.ensures.refusal in
    search rules

pub returns-in_err-granule-clause-refusal : goal.returns-in_err-granule-clause-refusal
returns-in_err-granule-clause-refusal g c =
    let fails : Some c.in_err-granule.field-0.0 ≡ first_failing (rec_create c.args.rd c.args.rec c.args.params c.args.granules.now).checks =
    rec_fails c.args.granules.now c.args.rd c.args.rec c.args.params c.in_ok-source.ensures.refusal c.in_err-granule.field-0.0 c.in_err-granule.ensures.refusal in
    search rules

pub returns-in_err-owner-clause-refusal : goal.returns-in_err-owner-clause-refusal
returns-in_err-owner-clause-refusal g c =
    let fails : Some c.in_err-owner.field-0.0 ≡ first_failing (rec_create c.args.rd c.args.rec c.args.params c.args.granules.now).checks =
    rd_fails c.args.granules.now c.args.rd c.args.rec c.args.params c.in_ok-source.ensures.refusal c.in_ok-granule.ensures.refusal c.in_err-owner.field-0.0 c.in_err-owner.ensures.refusal in
    search rules

pub returns-in_err-check_aux-clause-refusal : goal.returns-in_err-check_aux-clause-refusal
returns-in_err-check_aux-clause-refusal g c =
    let m = c.args.granules.now in
    let fails : Some c.in_err-check_aux.field-0.0 ≡ first_failing (rec_create c.args.rd c.args.rec c.args.params m).checks =
    aux_fail m c.args.rd c.args.rec c.args.params c.in_ok-source.ensures.refusal c.in_ok-granule.ensures.refusal c.in_ok-owner.ensures.refusal c.in_err-check_aux.field-0.0
    (c.in_err-check_aux.ensures
    ∙ ap (λ (page : List ℕ). first_failing (aux_checks m page c.args.rec)) (c.page-page.ensures.value ∙ ap (page_in m) c.in_ok-source.ensures.number)) in
    search rules

pub returns-in_err-check_number-clause-refusal : goal.returns-in_err-check_number-clause-refusal
returns-in_err-check_number-clause-refusal g c =
    let m = c.args.granules.now in
    let there = c.page-page.ensures.value ∙ ap (page_in m) c.in_ok-source.ensures.number in
    let four = c.in_ok-check_aux.ensures ∙ ap (λ (page : List ℕ). first_failing (aux_checks m page c.args.rec)) there in
    let fails : Some c.in_err-check_number.field-0.0 ≡ first_failing (rec_create c.args.rd c.args.rec c.args.params m).checks =
    c.in_err-check_number.ensures.refusal
    ∙ by_number_of m c.args.rd c.args.rec c.args.params c.in_ok-source.ensures.refusal c.in_ok-granule.ensures.refusal c.in_ok-owner.ensures.refusal
    _ _ _ c.settings.ensures.value there c.in_ok-owner.ensures.realm four in
    search rules

pub returns-clause-refusal : goal.returns-clause-refusal
returns-clause-refusal g c =
    let m = c.args.granules.now in
    let there = c.page-page.ensures.value ∙ ap (page_in m) c.in_ok-source.ensures.number in
    let four = c.in_ok-check_aux.ensures ∙ ap (λ (page : List ℕ). first_failing (aux_checks m page c.args.rec)) there in
    c.in_ok-check_number.ensures.refusal
    ∙ by_number_of m c.args.rd c.args.rec c.args.params c.in_ok-source.ensures.refusal c.in_ok-granule.ensures.refusal c.in_ok-owner.ensures.refusal
    _ _ _ c.settings.ensures.value there c.in_ok-owner.ensures.realm four

pub returns-clause-found : goal.returns-clause-found
returns-clause-found g c = record {
  place = c.in_ok-granule.ensures.number;
  inside = c.in_ok-granule.ensures.inside;
  source = c.in_ok-source.ensures.number;
  source_inside = c.in_ok-source.ensures.inside;
  different = λ same. delegated_apart c.args.granules.now c.in_ok-granule.granule c.in_ok-source.source c.in_ok-granule.ensures.state c.in_ok-source.ensures.state (sym same);
  owner = c.in_ok-owner.ensures.number;
  owner_inside = c.in_ok-owner.ensures.inside;
  realm = c.in_ok-owner.ensures.realm;
  served = c.in_ok-owner.ensures.served;
  next = c.in_ok-check_number.ensures.next;
  count = c.in_ok-check_number.ensures.count;
}

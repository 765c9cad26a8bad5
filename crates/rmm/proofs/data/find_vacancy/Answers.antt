use Rattle.std.proofs.Common.{◌≡◌, [], Bool, List, Some, rules, refl, ap, ◌∙◌}
use Rattle.rmm_model.specs.declared.entry.RmmRttEntry.{RmmRttEntry}
use Rattle.rmm_model.specs.declared.realm.RmmRealm.{RmmRealm}
use Rattle.rmm_model.specs.declared.realm.RttWalk.{RttWalk}
use Rattle.rmm_model.specs.declared.condition.Condition.TheVariants.{DataAlign, DataBound, DataState}
use Rattle.rmm_model.specs.Check.{Check, first_failing, error_rtt}
use Rattle.rmm_model.specs.Entry.{is_unassigned}
use Rattle.rmm_model.specs.Walk.{entry_at, walk}
use Rattle.rmm_model.specs.Command.Operand.{delegated_checks, rd_checks, realm_at, page_checks, entry_checks}
use Rattle.rmm_model.specs.Command.DataCreateUnknown.{data_create_unknown}
use Rattle.rmm.proofs.Checks.{first_fails, second_fails, third_fails, fourth_decides}
use Rattle.rmm.proofs.Walks.{end_of_walk}
use Rattle.rmm.proofs.data.find_vacancy.Goals as goal

pub returns-in_err-data-clause-refusal : goal.returns-in_err-data-clause-refusal
unfolding data_create_unknown
returns-in_err-data-clause-refusal g c =
    let m = c.args.granules.now in
    let realm = realm_at m c.args.rd in
    let found = walk m realm c.args.ipa 3 in
    let first : List Check = delegated_checks DataAlign DataBound DataState m c.args.page in
    let second : List Check = rd_checks m c.args.rd in
    let third : List Check = page_checks realm c.args.ipa in
    let fourth : List Check = entry_checks [] found 3 (is_unassigned (entry_at m found c.args.ipa)) error_rtt in
    let fails : Some c.in_err-data.field-0.0 ≡ first_failing (data_create_unknown c.args.rd c.args.page c.args.ipa m).checks =
    first_fails first second third fourth c.in_err-data.field-0.0 c.in_err-data.ensures.refusal in
    search rules

pub returns-in_err-owner-clause-refusal : goal.returns-in_err-owner-clause-refusal
unfolding data_create_unknown
returns-in_err-owner-clause-refusal g c =
    let m = c.args.granules.now in
    let realm = realm_at m c.args.rd in
    let found = walk m realm c.args.ipa 3 in
    let first : List Check = delegated_checks DataAlign DataBound DataState m c.args.page in
    let second : List Check = rd_checks m c.args.rd in
    let third : List Check = page_checks realm c.args.ipa in
    let fourth : List Check = entry_checks [] found 3 (is_unassigned (entry_at m found c.args.ipa)) error_rtt in
    let fails : Some c.in_err-owner.field-0.0 ≡ first_failing (data_create_unknown c.args.rd c.args.page c.args.ipa m).checks =
    second_fails first second third fourth c.in_err-owner.field-0.0 c.in_ok-data.ensures.refusal c.in_err-owner.ensures.refusal in
    search rules

pub returns-in_err-check_page-clause-refusal : goal.returns-in_err-check_page-clause-refusal
unfolding data_create_unknown
returns-in_err-check_page-clause-refusal g c =
    let m = c.args.granules.now in
    let realm = realm_at m c.args.rd in
    let found = walk m realm c.args.ipa 3 in
    let first : List Check = delegated_checks DataAlign DataBound DataState m c.args.page in
    let second : List Check = rd_checks m c.args.rd in
    let third : List Check = page_checks realm c.args.ipa in
    let fourth : List Check = entry_checks [] found 3 (is_unassigned (entry_at m found c.args.ipa)) error_rtt in
    let fails : Some c.in_err-check_page.field-0.0 ≡ first_failing (data_create_unknown c.args.rd c.args.page c.args.ipa m).checks =
    third_fails first second third fourth c.in_err-check_page.field-0.0 c.in_ok-data.ensures.refusal c.in_ok-owner.ensures.refusal (c.in_err-check_page.ensures.refusal ∙ ap (λ (r : RmmRealm). first_failing (page_checks r c.args.ipa)) c.in_ok-owner.ensures.realm) in
    search rules

pub returns-in_err-check_entry-clause-refusal : goal.returns-in_err-check_entry-clause-refusal
unfolding data_create_unknown
returns-in_err-check_entry-clause-refusal g c =
    let m = c.args.granules.now in
    let realm = realm_at m c.args.rd in
    let found = walk m realm c.args.ipa 3 in
    let first : List Check = delegated_checks DataAlign DataBound DataState m c.args.page in
    let second : List Check = rd_checks m c.args.rd in
    let third : List Check = page_checks realm c.args.ipa in
    let fourth : List Check = entry_checks [] found 3 (is_unassigned (entry_at m found c.args.ipa)) error_rtt in
    let fails : Some c.in_err-check_entry.field-0.0 ≡ first_failing (data_create_unknown c.args.rd c.args.page c.args.ipa m).checks =
    c.in_err-check_entry.ensures
    ∙ ap (λ (b : Bool). first_failing (entry_checks [] c.walk-found.result 3 b error_rtt)) c.is_unassigned.ensures
    ∙ end_of_walk (λ (w : RttWalk) (e : RmmRttEntry). first_failing (entry_checks [] w 3 (is_unassigned e) error_rtt))
    m _ _ c.args.ipa _ _ _ _ c.in_ok-owner.ensures.realm refl c.walk-found.ensures.value c.entry_at-entry.ensures.value
    ∙ fourth_decides first second third fourth c.in_ok-data.ensures.refusal c.in_ok-owner.ensures.refusal (c.in_ok-check_page.ensures.refusal ∙ ap (λ (r : RmmRealm). first_failing (page_checks r c.args.ipa)) c.in_ok-owner.ensures.realm) in
    search rules

pub returns-clause-refusal : goal.returns-clause-refusal
unfolding data_create_unknown
returns-clause-refusal g c =
    let m = c.args.granules.now in
    let realm = realm_at m c.args.rd in
    let found = walk m realm c.args.ipa 3 in
    let first : List Check = delegated_checks DataAlign DataBound DataState m c.args.page in
    let second : List Check = rd_checks m c.args.rd in
    let third : List Check = page_checks realm c.args.ipa in
    let fourth : List Check = entry_checks [] found 3 (is_unassigned (entry_at m found c.args.ipa)) error_rtt in
    c.in_ok-check_entry.ensures
    ∙ ap (λ (b : Bool). first_failing (entry_checks [] c.walk-found.result 3 b error_rtt)) c.is_unassigned.ensures
    ∙ end_of_walk (λ (w : RttWalk) (e : RmmRttEntry). first_failing (entry_checks [] w 3 (is_unassigned e) error_rtt))
    m _ _ c.args.ipa _ _ _ _ c.in_ok-owner.ensures.realm refl c.walk-found.ensures.value c.entry_at-entry.ensures.value
    ∙ fourth_decides first second third fourth c.in_ok-data.ensures.refusal c.in_ok-owner.ensures.refusal (c.in_ok-check_page.ensures.refusal ∙ ap (λ (r : RmmRealm). first_failing (page_checks r c.args.ipa)) c.in_ok-owner.ensures.realm)

use Rattle.std.proofs.Common.{◌≡◌, List, Some, rules, refl, ap, ◌∙◌}
use Rattle.rmi_abi.specs.declared.settings.RmmSettings.{RmmSettings}
use Rattle.rmm_model.specs.declared.entry.RmmRttEntry.{RmmRttEntry}
use Rattle.rmm_model.specs.declared.realm.RmmRealm.{RmmRealm}
use Rattle.rmm_model.specs.declared.realm.RttWalk.{RttWalk}
use Rattle.rmm_model.specs.Check.{Check, first_failing}
use Rattle.rmm_model.specs.Walk.{entry_at, walk}
use Rattle.rmm_model.specs.Command.DataCreate.{target_checks, vacancy_checks}
use Rattle.rmm_model.specs.Command.Operand.{rd_checks, realm_at, page_checks, new_checks}
use Rattle.rmm.proofs.Checks.{first_fails, second_fails, third_fails, fourth_decides}
use Rattle.rmm.proofs.Walks.{end_of_walk}
use Rattle.rmm.proofs.data_create.find_target.Goals as goal

pub returns-in_err-owner-clause-refusal : goal.returns-in_err-owner-clause-refusal
unfolding target_checks
returns-in_err-owner-clause-refusal g c =
    let m = c.args.granules.now in
    let realm = realm_at m c.args.rd in
    let found = walk m realm c.args.ipa 3 in
    let first : List Check = rd_checks m c.args.rd in
    let second : List Check = page_checks realm c.args.ipa in
    let third : List Check = new_checks realm in
    let fourth : List Check = vacancy_checks m.settings found (entry_at m found c.args.ipa) in
    let fails : Some c.in_err-owner.field-0.0 ≡ first_failing (target_checks m c.args.rd c.args.ipa) =
    first_fails first second third fourth c.in_err-owner.field-0.0 c.in_err-owner.ensures.refusal in
    search rules

pub returns-in_err-check_page-clause-refusal : goal.returns-in_err-check_page-clause-refusal
unfolding target_checks
returns-in_err-check_page-clause-refusal g c =
    let m = c.args.granules.now in
    let realm = realm_at m c.args.rd in
    let found = walk m realm c.args.ipa 3 in
    let first : List Check = rd_checks m c.args.rd in
    let second : List Check = page_checks realm c.args.ipa in
    let third : List Check = new_checks realm in
    let fourth : List Check = vacancy_checks m.settings found (entry_at m found c.args.ipa) in
    let fails : Some c.in_err-check_page.field-0.0 ≡ first_failing (target_checks m c.args.rd c.args.ipa) =
    second_fails first second third fourth c.in_err-check_page.field-0.0 c.in_ok-owner.ensures.refusal (c.in_err-check_page.ensures.refusal ∙ ap (λ (r : RmmRealm). first_failing (page_checks r c.args.ipa)) c.in_ok-owner.ensures.realm) in
    search rules

pub returns-in_err-check_new-clause-refusal : goal.returns-in_err-check_new-clause-refusal
unfolding target_checks
returns-in_err-check_new-clause-refusal g c =
    let m = c.args.granules.now in
    let realm = realm_at m c.args.rd in
    let found = walk m realm c.args.ipa 3 in
    let first : List Check = rd_checks m c.args.rd in
    let second : List Check = page_checks realm c.args.ipa in
    let third : List Check = new_checks realm in
    let fourth : List Check = vacancy_checks m.settings found (entry_at m found c.args.ipa) in
    let fails : Some c.in_err-check_new.field-0.0 ≡ first_failing (target_checks m c.args.rd c.args.ipa) =
    third_fails first second third fourth c.in_err-check_new.field-0.0 c.in_ok-owner.ensures.refusal (c.in_ok-check_page.ensures.refusal ∙ ap (λ (r : RmmRealm). first_failing (page_checks r c.args.ipa)) c.in_ok-owner.ensures.realm) (c.in_err-check_new.ensures ∙ ap (λ (r : RmmRealm). first_failing (new_checks r)) c.in_ok-owner.ensures.realm) in
    search rules

pub returns-in_err-check_vacant-clause-refusal : goal.returns-in_err-check_vacant-clause-refusal
unfolding target_checks
returns-in_err-check_vacant-clause-refusal g c =
    let m = c.args.granules.now in
    let realm = realm_at m c.args.rd in
    let found = walk m realm c.args.ipa 3 in
    let first : List Check = rd_checks m c.args.rd in
    let second : List Check = page_checks realm c.args.ipa in
    let third : List Check = new_checks realm in
    let fourth : List Check = vacancy_checks m.settings found (entry_at m found c.args.ipa) in
    let fails : Some c.in_err-check_vacant.field-0.0 ≡ first_failing (target_checks m c.args.rd c.args.ipa) =
    c.in_err-check_vacant.ensures
    ∙ ap (λ (s : RmmSettings). first_failing (vacancy_checks s c.walk-found.result c.entry_at.result)) c.settings.ensures.value
    ∙ end_of_walk (λ (w : RttWalk) (e : RmmRttEntry). first_failing (vacancy_checks m.settings w e))
    m _ _ c.args.ipa _ _ _ _ c.in_ok-owner.ensures.realm refl c.walk-found.ensures.value c.entry_at.ensures.value
    ∙ fourth_decides first second third fourth c.in_ok-owner.ensures.refusal (c.in_ok-check_page.ensures.refusal ∙ ap (λ (r : RmmRealm). first_failing (page_checks r c.args.ipa)) c.in_ok-owner.ensures.realm) (c.in_ok-check_new.ensures ∙ ap (λ (r : RmmRealm). first_failing (new_checks r)) c.in_ok-owner.ensures.realm) in
    search rules

pub returns-clause-refusal : goal.returns-clause-refusal
unfolding target_checks
returns-clause-refusal g c =
    let m = c.args.granules.now in
    let realm = realm_at m c.args.rd in
    let found = walk m realm c.args.ipa 3 in
    let first : List Check = rd_checks m c.args.rd in
    let second : List Check = page_checks realm c.args.ipa in
    let third : List Check = new_checks realm in
    let fourth : List Check = vacancy_checks m.settings found (entry_at m found c.args.ipa) in
    c.in_ok-check_vacant.ensures
    ∙ ap (λ (s : RmmSettings). first_failing (vacancy_checks s c.walk-found.result c.entry_at.result)) c.settings.ensures.value
    ∙ end_of_walk (λ (w : RttWalk) (e : RmmRttEntry). first_failing (vacancy_checks m.settings w e))
    m _ _ c.args.ipa _ _ _ _ c.in_ok-owner.ensures.realm refl c.walk-found.ensures.value c.entry_at.ensures.value
    ∙ fourth_decides first second third fourth c.in_ok-owner.ensures.refusal (c.in_ok-check_page.ensures.refusal ∙ ap (λ (r : RmmRealm). first_failing (page_checks r c.args.ipa)) c.in_ok-owner.ensures.realm) (c.in_ok-check_new.ensures ∙ ap (λ (r : RmmRealm). first_failing (new_checks r)) c.in_ok-owner.ensures.realm)

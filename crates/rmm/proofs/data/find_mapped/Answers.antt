use Rattle.std.proofs.Common.{◌≡◌, [], ◌++◌, is_some, List, Some, rules, refl, ap, ◌∙◌}
use Rattle.rmm_model.specs.declared.entry.RmmRttEntry.{RmmRttEntry}
use Rattle.rmm_model.specs.declared.realm.RmmRealm.{RmmRealm}
use Rattle.rmm_model.specs.declared.realm.RttWalk.{RttWalk}
use Rattle.rmm_model.specs.Check.{Check, first_failing, error_rtt_top}
use Rattle.rmm_model.specs.Walk.{entry_at, memory_below, walk, top}
use Rattle.rmm_model.specs.Command.Operand.{rd_checks, realm_at, page_checks, entry_checks}
use Rattle.rmm_model.specs.Command.DataDestroy.{data_destroy}
use Rattle.rmm.proofs.Checks.{failed, passed}
use Rattle.rmm.proofs.Walks.{end_of_walk}
use Rattle.rmm.proofs.data.find_mapped.Goals as goal

pub returns-in_err-owner-clause-refusal : goal.returns-in_err-owner-clause-refusal
unfolding data_destroy
returns-in_err-owner-clause-refusal g c =
    let m = c.args.granules.now in
    let realm = realm_at m c.args.rd in
    let found = walk m realm c.args.ipa 3 in
    let first : List Check = rd_checks m c.args.rd in
    let second : List Check = page_checks realm c.args.ipa in
    let third : List Check = entry_checks [] found 3 (is_some (memory_below m (entry_at m found c.args.ipa))) (error_rtt_top (top m found c.args.ipa)) in
    let fails : Some c.in_err-owner.field-0.0 ≡ first_failing (data_destroy c.args.rd c.args.ipa m).checks =
    failed (first ++ second) third c.in_err-owner.field-0.0 (failed first second c.in_err-owner.field-0.0 c.in_err-owner.ensures.refusal) in
    search rules

pub returns-in_err-check_page-clause-refusal : goal.returns-in_err-check_page-clause-refusal
unfolding data_destroy
returns-in_err-check_page-clause-refusal g c =
    let m = c.args.granules.now in
    let realm = realm_at m c.args.rd in
    let found = walk m realm c.args.ipa 3 in
    let first : List Check = rd_checks m c.args.rd in
    let second : List Check = page_checks realm c.args.ipa in
    let third : List Check = entry_checks [] found 3 (is_some (memory_below m (entry_at m found c.args.ipa))) (error_rtt_top (top m found c.args.ipa)) in
    let fails : Some c.in_err-check_page.field-0.0 ≡ first_failing (data_destroy c.args.rd c.args.ipa m).checks =
    failed (first ++ second) third c.in_err-check_page.field-0.0
    (c.in_err-check_page.ensures.refusal ∙ ap (λ (r : RmmRealm). first_failing (page_checks r c.args.ipa)) c.in_ok-owner.ensures.realm ∙ passed first second c.in_ok-owner.ensures.refusal) in
    search rules

pub returns-in_err-data-clause-refusal : goal.returns-in_err-data-clause-refusal
unfolding data_destroy
returns-in_err-data-clause-refusal g c =
    let m = c.args.granules.now in
    let realm = realm_at m c.args.rd in
    let found = walk m realm c.args.ipa 3 in
    let first : List Check = rd_checks m c.args.rd in
    let second : List Check = page_checks realm c.args.ipa in
    let third : List Check = entry_checks [] found 3 (is_some (memory_below m (entry_at m found c.args.ipa))) (error_rtt_top (top m found c.args.ipa)) in
    let fails : Some c.in_err-data.field-0.0 ≡ first_failing (data_destroy c.args.rd c.args.ipa m).checks =
    c.in_err-data.ensures.refusal
    ∙ end_of_walk (λ (w : RttWalk) (e : RmmRttEntry). first_failing (entry_checks [] w 3 (is_some (memory_below m e)) (error_rtt_top (top m w c.args.ipa))))
    m _ _ c.args.ipa _ _ _ _ c.in_ok-owner.ensures.realm refl c.walk-found.ensures.value c.entry_at-entry.ensures.value
    ∙ passed (first ++ second) third (c.in_ok-check_page.ensures.refusal ∙ ap (λ (r : RmmRealm). first_failing (page_checks r c.args.ipa)) c.in_ok-owner.ensures.realm ∙ passed first second c.in_ok-owner.ensures.refusal) in
    search rules

pub returns-clause-refusal : goal.returns-clause-refusal
unfolding data_destroy
returns-clause-refusal g c =
    let m = c.args.granules.now in
    let realm = realm_at m c.args.rd in
    let found = walk m realm c.args.ipa 3 in
    let first : List Check = rd_checks m c.args.rd in
    let second : List Check = page_checks realm c.args.ipa in
    let third : List Check = entry_checks [] found 3 (is_some (memory_below m (entry_at m found c.args.ipa))) (error_rtt_top (top m found c.args.ipa)) in
    c.in_ok-data.ensures.refusal
    ∙ end_of_walk (λ (w : RttWalk) (e : RmmRttEntry). first_failing (entry_checks [] w 3 (is_some (memory_below m e)) (error_rtt_top (top m w c.args.ipa))))
    m _ _ c.args.ipa _ _ _ _ c.in_ok-owner.ensures.realm refl c.walk-found.ensures.value c.entry_at-entry.ensures.value
    ∙ passed (first ++ second) third (c.in_ok-check_page.ensures.refusal ∙ ap (λ (r : RmmRealm). first_failing (page_checks r c.args.ipa)) c.in_ok-owner.ensures.realm ∙ passed first second c.in_ok-owner.ensures.refusal)

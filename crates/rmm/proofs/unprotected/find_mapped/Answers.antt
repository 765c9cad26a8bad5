use Rattle.std.proofs.Common.{◌≡◌, ℕ, ◌++◌, List, Some, rules, refl, ap, ◌∙◌}
use Rattle.rmi_abi.specs.declared.settings.RmmSettings.{RmmSettings}
use Rattle.rmm_model.specs.declared.entry.RmmRttEntry.{RmmRttEntry}
use Rattle.rmm_model.specs.declared.realm.RmmRealm.{RmmRealm}
use Rattle.rmm_model.specs.declared.realm.RttWalk.{RttWalk}
use Rattle.rmm_model.specs.Check.{Check, first_failing}
use Rattle.rmm_model.specs.Walk.{walk}
use Rattle.rmm_model.specs.Command.Operand.{rd_checks, realm_at, unprotected_checks}
use Rattle.rmm_model.specs.Command.RttUnmapUnprotected.{rtt_unmap_unprotected, mapped_checks}
use Rattle.rmm.proofs.Checks.{failed, passed}
use Rattle.rmm.proofs.Walks.{end_of_walk}
use Rattle.rmm.proofs.unprotected.find_mapped.Goals as goal

pub returns-in_err-owner-clause-refusal : goal.returns-in_err-owner-clause-refusal
unfolding rtt_unmap_unprotected
returns-in_err-owner-clause-refusal g c =
    let m = c.args.granules.now in
    let realm = realm_at m c.args.rd in
    let found = walk m realm c.args.ipa c.args.level in
    let first : List Check = rd_checks m c.args.rd in
    let second : List Check = unprotected_checks m.settings realm c.args.level c.args.ipa in
    let third : List Check = mapped_checks m found c.args.ipa c.args.level in
    let fails : Some c.in_err-owner.field-0.0 ≡ first_failing (rtt_unmap_unprotected c.args.rd c.args.ipa c.args.level m).checks =
    failed (first ++ second) third c.in_err-owner.field-0.0 (failed first second c.in_err-owner.field-0.0 c.in_err-owner.ensures.refusal) in
    search rules

pub returns-in_err-level-clause-refusal : goal.returns-in_err-level-clause-refusal
unfolding rtt_unmap_unprotected
returns-in_err-level-clause-refusal g c =
    let m = c.args.granules.now in
    let realm = realm_at m c.args.rd in
    let found = walk m realm c.args.ipa c.args.level in
    let first : List Check = rd_checks m c.args.rd in
    let second : List Check = unprotected_checks m.settings realm c.args.level c.args.ipa in
    let third : List Check = mapped_checks m found c.args.ipa c.args.level in
    let fails : Some c.in_err-level.field-0.0 ≡ first_failing (rtt_unmap_unprotected c.args.rd c.args.ipa c.args.level m).checks =
    failed (first ++ second) third c.in_err-level.field-0.0 (c.in_err-level.ensures.refusal ∙ ap (λ (s : RmmSettings). first_failing (unprotected_checks s c.in_ok-owner.owner.realm c.args.level c.args.ipa)) c.settings.ensures.value
    ∙ ap (λ (r : RmmRealm). first_failing (unprotected_checks m.settings r c.args.level c.args.ipa)) c.in_ok-owner.ensures.realm ∙ passed first second c.in_ok-owner.ensures.refusal) in
    search rules

pub returns-in_err-check_mapped-clause-refusal : goal.returns-in_err-check_mapped-clause-refusal
unfolding rtt_unmap_unprotected
returns-in_err-check_mapped-clause-refusal g c =
    let m = c.args.granules.now in
    let realm = realm_at m c.args.rd in
    let found = walk m realm c.args.ipa c.args.level in
    let first : List Check = rd_checks m c.args.rd in
    let second : List Check = unprotected_checks m.settings realm c.args.level c.args.ipa in
    let third : List Check = mapped_checks m found c.args.ipa c.args.level in
    let fails : Some c.in_err-check_mapped.field-0.0 ≡ first_failing (rtt_unmap_unprotected c.args.rd c.args.ipa c.args.level m).checks =
    c.in_err-check_mapped.ensures
    ∙ ap (λ (l : ℕ). first_failing (mapped_checks m c.walk-found.result c.args.ipa l)) c.in_ok-level.ensures.level
    ∙ end_of_walk (λ (w : RttWalk) (e : RmmRttEntry). first_failing (mapped_checks m w c.args.ipa c.args.level))
    m _ _ c.args.ipa _ _ _ _ c.in_ok-owner.ensures.realm c.in_ok-level.ensures.level c.walk-found.ensures.value refl
    ∙ passed (first ++ second) third (c.in_ok-level.ensures.refusal ∙ ap (λ (s : RmmSettings). first_failing (unprotected_checks s c.in_ok-owner.owner.realm c.args.level c.args.ipa)) c.settings.ensures.value
    ∙ ap (λ (r : RmmRealm). first_failing (unprotected_checks m.settings r c.args.level c.args.ipa)) c.in_ok-owner.ensures.realm ∙ passed first second c.in_ok-owner.ensures.refusal) in
    search rules

pub returns-clause-refusal : goal.returns-clause-refusal
unfolding rtt_unmap_unprotected
returns-clause-refusal g c =
    let m = c.args.granules.now in
    let realm = realm_at m c.args.rd in
    let found = walk m realm c.args.ipa c.args.level in
    let first : List Check = rd_checks m c.args.rd in
    let second : List Check = unprotected_checks m.settings realm c.args.level c.args.ipa in
    let third : List Check = mapped_checks m found c.args.ipa c.args.level in
    c.in_ok-check_mapped.ensures
    ∙ ap (λ (l : ℕ). first_failing (mapped_checks m c.walk-found.result c.args.ipa l)) c.in_ok-level.ensures.level
    ∙ end_of_walk (λ (w : RttWalk) (e : RmmRttEntry). first_failing (mapped_checks m w c.args.ipa c.args.level))
    m _ _ c.args.ipa _ _ _ _ c.in_ok-owner.ensures.realm c.in_ok-level.ensures.level c.walk-found.ensures.value refl
    ∙ passed (first ++ second) third (c.in_ok-level.ensures.refusal ∙ ap (λ (s : RmmSettings). first_failing (unprotected_checks s c.in_ok-owner.owner.realm c.args.level c.args.ipa)) c.settings.ensures.value
    ∙ ap (λ (r : RmmRealm). first_failing (unprotected_checks m.settings r c.args.level c.args.ipa)) c.in_ok-owner.ensures.realm ∙ passed first second c.in_ok-owner.ensures.refusal)

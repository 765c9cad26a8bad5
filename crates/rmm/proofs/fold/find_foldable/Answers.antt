use Rattle.std.proofs.Common.{◌≡◌, ℕ, ◌+◌, ◌-◌, ◌++◌, List, Some, rules, ap, ◌∙◌}
use Rattle.rmm_model.specs.declared.entry.RmmRttEntry.{RmmRttEntry}
use Rattle.rmm_model.specs.declared.realm.RmmRealm.{RmmRealm}
use Rattle.rmm_model.specs.declared.realm.RttWalk.{RttWalk}
use Rattle.rmm_model.specs.Check.{Check, first_failing}
use Rattle.rmm_model.specs.Walk.{entry_at, walk}
use Rattle.rmm_model.specs.Command.Operand.{rd_checks, realm_at, ipa_checks}
use Rattle.rmm_model.specs.Command.RttFold.{rtt_fold, fold_checks}
use Rattle.rmm.proofs.Checks.{failed, passed}
use Rattle.rmm.proofs.Walks.{end_of_walk}
use Rattle.rmm.proofs.fold.find_foldable.Goals as goal

pub returns-in_err-owner-clause-refusal : goal.returns-in_err-owner-clause-refusal
unfolding rtt_fold
returns-in_err-owner-clause-refusal g c =
    let m = c.args.granules.now in
    let realm = realm_at m c.args.rd in
    let found = walk m realm c.args.ipa (c.args.level - 1) in
    let first : List Check = rd_checks m c.args.rd in
    let second : List Check = ipa_checks realm (realm.start_level + 1) c.args.level 1 c.args.ipa in
    let third : List Check = fold_checks m found (entry_at m found c.args.ipa) c.args.level in
    let fails : Some c.in_err-owner.field-0.0 ≡ first_failing (rtt_fold c.args.rd c.args.ipa c.args.level m).checks =
    failed (first ++ second) third c.in_err-owner.field-0.0 (failed first second c.in_err-owner.field-0.0 c.in_err-owner.ensures.refusal) in
    search rules

pub returns-in_err-level-clause-refusal : goal.returns-in_err-level-clause-refusal
unfolding rtt_fold
returns-in_err-level-clause-refusal g c =
    let m = c.args.granules.now in
    let realm = realm_at m c.args.rd in
    let found = walk m realm c.args.ipa (c.args.level - 1) in
    let first : List Check = rd_checks m c.args.rd in
    let second : List Check = ipa_checks realm (realm.start_level + 1) c.args.level 1 c.args.ipa in
    let third : List Check = fold_checks m found (entry_at m found c.args.ipa) c.args.level in
    let fails : Some c.in_err-level.field-0.0 ≡ first_failing (rtt_fold c.args.rd c.args.ipa c.args.level m).checks =
    failed (first ++ second) third c.in_err-level.field-0.0
    (c.in_err-level.ensures.refusal ∙ ap (λ (r : RmmRealm). first_failing (ipa_checks r (r.start_level + 1) c.args.level 1 c.args.ipa)) c.in_ok-owner.ensures.realm ∙ passed first second c.in_ok-owner.ensures.refusal) in
    search rules

pub returns-in_err-table-clause-refusal : goal.returns-in_err-table-clause-refusal
unfolding rtt_fold
returns-in_err-table-clause-refusal g c =
    let m = c.args.granules.now in
    let realm = realm_at m c.args.rd in
    let found = walk m realm c.args.ipa (c.args.level - 1) in
    let first : List Check = rd_checks m c.args.rd in
    let second : List Check = ipa_checks realm (realm.start_level + 1) c.args.level 1 c.args.ipa in
    let third : List Check = fold_checks m found (entry_at m found c.args.ipa) c.args.level in
    let fails : Some c.in_err-table.field-0.0 ≡ first_failing (rtt_fold c.args.rd c.args.ipa c.args.level m).checks =
    c.in_err-table.ensures.refusal
    ∙ ap (λ (l : ℕ). first_failing (fold_checks m c.walk-found.result c.entry_at-parent.result l)) c.in_ok-level.ensures.level
    ∙ end_of_walk (λ (w : RttWalk) (e : RmmRttEntry). first_failing (fold_checks m w e c.args.level))
    m _ _ c.args.ipa _ _ _ _ c.in_ok-owner.ensures.realm (ap (λ (l : ℕ). l - 1) c.in_ok-level.ensures.level) c.walk-found.ensures.value c.entry_at-parent.ensures.value
    ∙ passed (first ++ second) third (c.in_ok-level.ensures.refusal ∙ ap (λ (r : RmmRealm). first_failing (ipa_checks r (r.start_level + 1) c.args.level 1 c.args.ipa)) c.in_ok-owner.ensures.realm ∙ passed first second c.in_ok-owner.ensures.refusal) in
    search rules

pub returns-clause-refusal : goal.returns-clause-refusal
unfolding rtt_fold
returns-clause-refusal g c =
    let m = c.args.granules.now in
    let realm = realm_at m c.args.rd in
    let found = walk m realm c.args.ipa (c.args.level - 1) in
    let first : List Check = rd_checks m c.args.rd in
    let second : List Check = ipa_checks realm (realm.start_level + 1) c.args.level 1 c.args.ipa in
    let third : List Check = fold_checks m found (entry_at m found c.args.ipa) c.args.level in
    c.in_ok-table.ensures.refusal
    ∙ ap (λ (l : ℕ). first_failing (fold_checks m c.walk-found.result c.entry_at-parent.result l)) c.in_ok-level.ensures.level
    ∙ end_of_walk (λ (w : RttWalk) (e : RmmRttEntry). first_failing (fold_checks m w e c.args.level))
    m _ _ c.args.ipa _ _ _ _ c.in_ok-owner.ensures.realm (ap (λ (l : ℕ). l - 1) c.in_ok-level.ensures.level) c.walk-found.ensures.value c.entry_at-parent.ensures.value
    ∙ passed (first ++ second) third (c.in_ok-level.ensures.refusal ∙ ap (λ (r : RmmRealm). first_failing (ipa_checks r (r.start_level + 1) c.args.level 1 c.args.ipa)) c.in_ok-owner.ensures.realm ∙ passed first second c.in_ok-owner.ensures.refusal)

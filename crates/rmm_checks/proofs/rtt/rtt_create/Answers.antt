use Rattle.std.proofs.Common.{◌≡◌, ℕ, ◌+◌, ◌-◌, ◌==◌, ◌++◌, not, true, List, refl, ap, subst, nat_le, ◌∙◌}
use Rattle.rmm_model.specs.declared.condition.Condition.TheVariants.{RttAlign, RttBound, RttState, RttWalk as WalkEnds}
use Rattle.rmm_model.specs.declared.entry.RmmRttEntry.{RmmRttEntry}
use Rattle.rmm_model.specs.declared.realm.RmmRealm.{RmmRealm}
use Rattle.rmm_model.specs.declared.realm.RttWalk.{RttWalk}
use Rattle.rmm_model.specs.Check.{Check, error_rtt}
use Rattle.rmm_model.specs.Entry.{is_table}
use Rattle.rmm_model.specs.Level.{entry_size}
use Rattle.rmm_model.specs.Machine.{Machine}
use Rattle.rmm_model.specs.Walk.{walk, entry_at}
use Rattle.rmm_model.specs.Command.RttCreate.{rtt_create}
use Rattle.rmm_model.specs.Command.Operand.{realm_at, is_multiple, delegated_checks, rd_checks, ipa_checks}
use Rattle.rmm_checks.specs.CanWalk.{can_walk}
use Rattle.rmm_checks.specs.Evaluated.{Adds, is_made}
use Rattle.rmm_checks.proofs.Rows.{on, from_none}
use Rattle.rmm_checks.proofs.Walked.{absent_in, made_in}
use Rattle.rmm_checks.proofs.MayWalk.{before_walk, above_walk}
use Rattle.rmm_checks.proofs.rtt.rtt_create.Goals as goal

pub returns : goal.returns
unfolding rtt_create
returns g c =
    let m : Machine = c.args.granules.now in
    let realm : RmmRealm = realm_at m c.args.rd in
    let found : RttWalk = walk m realm c.args.ipa (c.args.level - 1) in
    let entry : RmmRttEntry = entry_at m found c.args.ipa in
    let cs : List Check = (delegated_checks RttAlign RttBound RttState m c.args.rtt ++ rd_checks m c.args.rd) ++ ipa_checks realm (realm.start_level + 1) c.args.level 1 c.args.ipa in
    let ipa = subst (λ (n : ℕ). Adds c.add_rd.new.checks (ipa_checks realm n c.args.level 1 c.args.ipa) c.add_ipa.new.checks) (ap (λ (n : ℕ). n + 1) c.start_level_at-least.ensures.value) c.add_ipa.ensures.rows in
    let groups : Adds c.new-checks.result cs c.add_ipa.new.checks = on (on c.add_delegated.ensures.rows c.add_rd.ensures.rows) ipa in
    let before = from_none c.new-checks.ensures groups in
    let may : is_made c.add_ipa.new.checks before_walk ≡ true → (can_walk m c.args.rd c.args.ipa (c.args.level - 1) ≡ true) × (nat_le c.args.level 3 ≡ true) × (nat_le (realm.start_level + 1) c.args.level ≡ true) = λ made. above_walk m c.args.rd c.args.ipa cs (made_in cs before_walk 2 before made) (realm.start_level + 1) c.args.level (not (is_multiple c.args.ipa (entry_size (c.args.level - 1)))) refl refl refl refl in
    let level_is : can_walk m c.args.rd c.args.ipa (c.args.level - 1) ≡ true → c.reach-reached.result.level ≡ found.level = subst (λ (to : ℕ). can_walk m c.args.rd c.args.ipa to ≡ true → c.reach-reached.result.level ≡ (walk m realm c.args.ipa to).level) c.saturating_sub-to.ensures c.reach-reached.ensures.level in
    let entry_is : can_walk m c.args.rd c.args.ipa (c.args.level - 1) ≡ true → c.reach-reached.result.entry ≡ entry = subst (λ (to : ℕ). can_walk m c.args.rd c.args.ipa to ≡ true → c.reach-reached.result.entry ≡ entry_at m (walk m realm c.args.ipa to) c.args.ipa) c.saturating_sub-to.ensures c.reach-reached.ensures.entry in
    let rows = c.add_entry.ensures.rows (found.level == (c.args.level - 1)) (not (is_table entry)) (error_rtt found.level)
    (λ made. let can = (may made).0 in (ap (λ (n : ℕ). n == c.saturating_sub-to.result) (level_is can) ∙ ap (λ (n : ℕ). found.level == n) c.saturating_sub-to.ensures, (ap not (c.is_table-is_table.ensures ∙ ap is_table (entry_is can)), c.only-answer.ensures ∙ ap error_rtt (level_is can))))
    (absent_in cs WalkEnds before refl) in
    from_none c.new-checks.ensures (on groups rows)

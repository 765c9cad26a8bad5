use Rattle.std.proofs.Common.{◌≡◌, ℕ, ◌+◌, ◌-◌, ◌==◌, ◌++◌, not, true, List, is_some, refl, ap, sym, subst, unwrap_or, nat_le, ◌∙◌}
use Rattle.rmm_model.specs.declared.condition.Condition.TheVariants.{RtteState, RttWalk as WalkEnds}
use Rattle.rmm_model.specs.declared.entry.RmmRttEntry.{RmmRttEntry}
use Rattle.rmm_model.specs.declared.realm.RmmRealm.{RmmRealm}
use Rattle.rmm_model.specs.declared.realm.RttWalk.{RttWalk}
use Rattle.rmm_model.specs.Check.{Check, error_rtt_top}
use Rattle.rmm_model.specs.Level.{entry_size}
use Rattle.rmm_model.specs.Machine.{Machine, page_in}
use Rattle.rmm_model.specs.Table.{has_live}
use Rattle.rmm_model.specs.Walk.{walk, entry_at, top, table_below}
use Rattle.rmm_model.specs.Command.RttDestroy.{rtt_destroy}
use Rattle.rmm_model.specs.Command.Operand.{realm_at, is_multiple, rd_checks, ipa_checks}
use Rattle.rmm_checks.specs.CanWalk.{can_walk}
use Rattle.rmm_checks.specs.Evaluated.{Adds, is_made}
use Rattle.rmm_checks.proofs.Rows.{on, from_none}
use Rattle.rmm_checks.proofs.Walked.{told_where, absent_in, made_in}
use Rattle.rmm_checks.proofs.MayWalk.{before_walk, above_walk}
use Rattle.rmm_checks.proofs.rtt.rtt_destroy.Goals as goal

pub returns : goal.returns
unfolding rtt_destroy
returns g c =
    let m : Machine = c.args.granules.now in
    let realm : RmmRealm = realm_at m c.args.rd in
    let found : RttWalk = walk m realm c.args.ipa (c.args.level - 1) in
    let entry : RmmRttEntry = entry_at m found c.args.ipa in
    let cs : List Check = rd_checks m c.args.rd ++ ipa_checks realm (realm.start_level + 1) c.args.level 1 c.args.ipa in
    let ipa = subst (λ (n : ℕ). Adds c.add_rd.new.checks (ipa_checks realm n c.args.level 1 c.args.ipa) c.add_ipa.new.checks) (ap (λ (n : ℕ). n + 1) c.start_level_at-least.ensures.value) c.add_ipa.ensures.rows in
    let groups : Adds c.new-checks.result cs c.add_ipa.new.checks = on c.add_rd.ensures.rows ipa in
    let before = from_none c.new-checks.ensures groups in
    let may : is_made c.add_ipa.new.checks before_walk ≡ true → (can_walk m c.args.rd c.args.ipa (c.args.level - 1) ≡ true) × (nat_le c.args.level 3 ≡ true) × (nat_le (realm.start_level + 1) c.args.level ≡ true) = λ made. above_walk m c.args.rd c.args.ipa cs (made_in cs before_walk 2 before made) (realm.start_level + 1) c.args.level (not (is_multiple c.args.ipa (entry_size (c.args.level - 1)))) refl refl refl refl in
    let level_is : can_walk m c.args.rd c.args.ipa (c.args.level - 1) ≡ true → c.reach-reached.result.level ≡ found.level = subst (λ (to : ℕ). can_walk m c.args.rd c.args.ipa to ≡ true → c.reach-reached.result.level ≡ (walk m realm c.args.ipa to).level) c.saturating_sub-to.ensures c.reach-reached.ensures.level in
    let entry_is : can_walk m c.args.rd c.args.ipa (c.args.level - 1) ≡ true → c.reach-reached.result.entry ≡ entry = subst (λ (to : ℕ). can_walk m c.args.rd c.args.ipa to ≡ true → c.reach-reached.result.entry ≡ entry_at m (walk m realm c.args.ipa to) c.args.ipa) c.saturating_sub-to.ensures c.reach-reached.ensures.entry in
    let top_is : can_walk m c.args.rd c.args.ipa (c.args.level - 1) ≡ true → c.reach-reached.result.top ≡ top m found c.args.ipa = subst (λ (to : ℕ). can_walk m c.args.rd c.args.ipa to ≡ true → c.reach-reached.result.top ≡ top m (walk m realm c.args.ipa to) c.args.ipa) c.saturating_sub-to.ensures c.reach-reached.ensures.top in
    let rows = c.add_entry.ensures.rows (found.level == (c.args.level - 1)) (is_some (table_below m entry)) (error_rtt_top (top m found c.args.ipa) found.level)
    (λ made. let can = (may made).0 in (ap (λ (n : ℕ). n == c.saturating_sub-to.result) (level_is can) ∙ ap (λ (n : ℕ). found.level == n) c.saturating_sub-to.ensures, (c.is_some.ensures ∙ ap is_some (c.table_below-table.ensures.value ∙ ap (table_below m) (entry_is can)), c.rtt_top-answer.ensures ∙ ap (λ (t : ℕ). error_rtt_top t c.reach-reached.result.level) (top_is can) ∙ ap (error_rtt_top (top m found c.args.ipa)) (level_is can))))
    (absent_in cs WalkEnds before refl) in
    from_none c.new-checks.ensures (on (on groups rows) (told_where (λ made.
    let both = c.add_entry.ensures.passed (absent_in cs WalkEnds before refl) (absent_in cs RtteState before refl) made in
    let can = (may both.0).0 in
    let some = ap is_some (sym c.table_below-table.ensures.value) ∙ sym c.is_some.ensures ∙ both.1 in (
      c.is_live_below-live.ensures some ∙ ap (λ (e : RmmRttEntry). has_live (page_in m (unwrap_or (table_below m e) 0))) (entry_is can),
      c.rtt_top-refused.ensures ∙ ap (λ (t : ℕ). error_rtt_top t c.level_or_zero-own.result) (top_is can) ∙ ap (error_rtt_top (top m found c.args.ipa)) (c.level_or_zero-own.ensures.value (may both.0).1),
    ))
    c.add.ensures.rows))

use Rattle.std.proofs.Common.{◌≡◌, ℕ, ◌+◌, ◌-◌, ◌==◌, ◌++◌, not, true, List, is_some, refl, ap, subst, nat_le, ◌∙◌, unwrap_or, [], sym}
use Rattle.rmm_model.specs.declared.condition.Condition.TheVariants.{RttWalk as WalkEnds, RtteState, RttHomo}
use Rattle.rmm_model.specs.declared.entry.RmmRttEntry.{RmmRttEntry}
use Rattle.rmm_model.specs.declared.realm.RmmRealm.{RmmRealm}
use Rattle.rmm_model.specs.declared.realm.RttWalk.{RttWalk}
use Rattle.rmm_model.specs.Check.{Check, error_rtt}
use Rattle.rmm_model.specs.Level.{entry_size}
use Rattle.rmm_model.specs.Machine.{Machine, page_in}
use Rattle.rmm_model.specs.Walk.{walk, entry_at, table_below}
use Rattle.rmm_model.specs.Command.RttFold.{rtt_fold, is_homogeneous, is_block_too_high}
use Rattle.rmm_model.specs.Command.Operand.{realm_at, is_multiple, rd_checks, ipa_checks, entry_checks}
use Rattle.rmm_checks.specs.CanWalk.{can_walk}
use Rattle.rmm_checks.specs.Evaluated.{Adds, is_made}
use Rattle.rmm_checks.proofs.Rows.{on, from_none}
use Rattle.rmm_checks.proofs.Walked.{absent_in, made_in, told_where, passed_here}
use Rattle.rmm_checks.proofs.MayWalk.{before_walk, above_walk, one_below}
use Rattle.rmm_checks.proofs.fold.rtt_fold.Goals as goal

pub returns : goal.returns
unfolding rtt_fold
returns g c =
    let m : Machine = c.args.granules.now in
    let realm : RmmRealm = realm_at m c.args.rd in
    let found : RttWalk = walk m realm c.args.ipa (c.args.level - 1) in
    let entry : RmmRttEntry = entry_at m found c.args.ipa in
    let cs : List Check = rd_checks m c.args.rd ++ ipa_checks realm (realm.start_level + 1) c.args.level 1 c.args.ipa in
    let ipa = subst (λ (n : ℕ). Adds c.add_rd.new.checks (ipa_checks realm n c.args.level 1 c.args.ipa) c.add_ipa.new.checks) (ap (λ (n : ℕ). n + 1) c.start_level_at-least.ensures.value) c.add_ipa.ensures.rows in
    let groups : Adds c.new-checks.result cs c.add_ipa.new.checks = on c.add_rd.ensures.rows ipa in
    let before = from_none c.new-checks.ensures groups in
    let may : is_made c.add_ipa.new.checks before_walk ≡ true → (can_walk m c.args.rd c.args.ipa (c.args.level - 1) ≡ true) × (nat_le c.args.level 3 ≡ true) × (nat_le (realm.start_level + 1) c.args.level ≡ true) = λ made. above_walk m c.args.rd c.args.ipa cs (made_in cs before_walk 2 before made) (realm.start_level + 1) c.args.level (not (is_multiple c.args.ipa (entry_size (c.args.level - 1)))) refl refl refl refl in
    let level_is : can_walk m c.args.rd c.args.ipa (c.args.level - 1) ≡ true → c.reach-reached.result.level ≡ found.level = subst (λ (to : ℕ). can_walk m c.args.rd c.args.ipa to ≡ true → c.reach-reached.result.level ≡ (walk m realm c.args.ipa to).level) c.saturating_sub-to.ensures c.reach-reached.ensures.level in
    let entry_is : can_walk m c.args.rd c.args.ipa (c.args.level - 1) ≡ true → c.reach-reached.result.entry ≡ entry = subst (λ (to : ℕ). can_walk m c.args.rd c.args.ipa to ≡ true → c.reach-reached.result.entry ≡ entry_at m (walk m realm c.args.ipa to) c.args.ipa) c.saturating_sub-to.ensures c.reach-reached.ensures.entry in
    let rows = c.add_entry.ensures.rows (found.level == (c.args.level - 1)) (is_some (table_below m entry)) (error_rtt found.level)
    (λ made. let can = (may made).0 in (ap (λ (n : ℕ). n == c.saturating_sub-to.result) (level_is can) ∙ ap (λ (n : ℕ). found.level == n) c.saturating_sub-to.ensures, (c.is_some.ensures ∙ ap is_some (c.table_below-table.ensures.value ∙ ap (table_below m) (entry_is can)), c.only-answer.ensures ∙ ap error_rtt (level_is can))))
    (absent_in cs WalkEnds before refl) in
    from_none c.new-checks.ensures (on (on (on groups rows) (told_where (λ made.
    let both = c.add_entry.ensures.passed (absent_in cs WalkEnds before refl) (absent_in cs RtteState before refl) made in
    let can = (may both.0).0 in
    let some = ap is_some (sym c.table_below-table.ensures.value) ∙ sym c.is_some.ensures ∙ both.1 in
    let own = c.level_or_one-own.ensures.value (one_below (realm.start_level) c.args.level (may both.0).2) (may both.0).1 in (
      ap not (c.is_homogeneous_below-same.ensures some
          ∙ ap (λ (e : RmmRttEntry). is_homogeneous (page_in m (unwrap_or (table_below m e) 0)) c.level_or_one-own.result) (entry_is can)
          ∙ ap (is_homogeneous (page_in m (unwrap_or (table_below m entry) 0))) own),
      ap error_rtt own,
    ))
    c.rtt.ensures.rows)) (told_where (λ made.
    let homo = passed_here (absent_in (cs ++ entry_checks [] found (c.args.level - 1) (is_some (table_below m entry)) error_rtt) RttHomo (from_none c.new-checks.ensures (on groups rows)) refl) c.rtt.ensures.rows made in
    let both = c.add_entry.ensures.passed (absent_in cs WalkEnds before refl) (absent_in cs RtteState before refl) homo.0 in
    let can = (may both.0).0 in
    let some = ap is_some (sym c.table_below-table.ensures.value) ∙ sym c.is_some.ensures ∙ both.1 in
    let own = c.level_or_one-own.ensures.value (one_below (realm.start_level) c.args.level (may both.0).2) (may both.0).1 in (
      c.is_too_high_below-high.ensures some
          ∙ ap (λ (e : RmmRttEntry). is_block_too_high m.settings (page_in m (unwrap_or (table_below m e) 0)) c.level_or_one-own.result) (entry_is can)
          ∙ ap (is_block_too_high m.settings (page_in m (unwrap_or (table_below m entry) 0))) own,
      ap (λ (n : ℕ). error_rtt (n - 1)) own,
    ))
    c.rtt-2.ensures.rows))

use Rattle.std.proofs.Common.{◌≡◌, ℕ, ◌==◌, ◌++◌, not, true, List, refl, ap, ◌∙◌}
use Rattle.rmm_model.specs.declared.condition.Condition.TheVariants.{RttWalk as WalkEnds}
use Rattle.rmm_model.specs.declared.entry.RmmRttEntry.{RmmRttEntry}
use Rattle.rmm_model.specs.declared.realm.RmmRealm.{RmmRealm}
use Rattle.rmm_model.specs.declared.realm.RttWalk.{RttWalk}
use Rattle.rmm_model.specs.Check.{Check}
use Rattle.rmm_model.specs.Entry.{is_assigned_ns}
use Rattle.rmm_model.specs.Level.{entry_size}
use Rattle.rmm_model.specs.Machine.{Machine}
use Rattle.rmm_model.specs.Walk.{walk, entry_at, top}
use Rattle.rmm_model.specs.Command.RttUnmapUnprotected.{rtt_unmap_unprotected, error_rtt_next}
use Rattle.rmm_model.specs.Command.Operand.{realm_at, is_multiple, rd_checks, unprotected_checks}
use Rattle.rmm_checks.specs.CanWalk.{can_walk}
use Rattle.rmm_checks.specs.Evaluated.{Adds, is_made}
use Rattle.rmm_checks.proofs.Rows.{on, from_none}
use Rattle.rmm_checks.proofs.Walked.{absent_in, made_in}
use Rattle.rmm_checks.proofs.MayWalk.{before_walk, unprotected_walk}
use Rattle.rmm_checks.proofs.unprotected.rtt_unmap_unprotected.Goals as goal

pub returns : goal.returns
unfolding rtt_unmap_unprotected
returns g c =
    let m : Machine = c.args.granules.now in
    let realm : RmmRealm = realm_at m c.args.rd in
    let found : RttWalk = walk m realm c.args.ipa (c.args.level) in
    let entry : RmmRttEntry = entry_at m found c.args.ipa in
    let cs : List Check = rd_checks m c.args.rd ++ unprotected_checks m.settings realm c.args.level c.args.ipa in
    let groups : Adds c.new-checks.result cs c.add_unprotected.new.checks = on c.add_rd.ensures.rows c.add_unprotected.ensures.rows in
    let before = from_none c.new-checks.ensures groups in
    let may : is_made c.add_unprotected.new.checks before_walk ≡ true → can_walk m c.args.rd c.args.ipa c.args.level ≡ true = λ made. unprotected_walk m c.args.rd c.args.ipa cs (made_in cs before_walk 2 before made) m.settings.block_level realm.start_level c.args.level (not (is_multiple c.args.ipa (entry_size c.args.level))) refl refl refl refl in
    let level_is : can_walk m c.args.rd c.args.ipa (c.args.level) ≡ true → c.reach-reached.result.level ≡ found.level = c.reach-reached.ensures.level in
    let entry_is : can_walk m c.args.rd c.args.ipa (c.args.level) ≡ true → c.reach-reached.result.entry ≡ entry = c.reach-reached.ensures.entry in
    let top_is : can_walk m c.args.rd c.args.ipa (c.args.level) ≡ true → c.reach-reached.result.top ≡ top m found c.args.ipa = c.reach-reached.ensures.top in
    let rows = c.add_entry.ensures.rows (found.level == c.args.level) (is_assigned_ns entry) (error_rtt_next (top m found c.args.ipa) found.level)
    (λ made. let can = may made in (ap (λ (n : ℕ). n == c.args.level) (level_is can), (c.is_assigned_ns-fits.ensures ∙ ap is_assigned_ns (entry_is can), c.rtt_next-answer.ensures ∙ ap (λ (t : ℕ). error_rtt_next t c.reach-reached.result.level) (top_is can) ∙ ap (error_rtt_next (top m found c.args.ipa)) (level_is can))))
    (absent_in cs WalkEnds before refl) in
    from_none c.new-checks.ensures (on groups rows)

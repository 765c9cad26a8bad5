use Rattle.std.proofs.Common.{◌≡◌, ℕ, ◌==◌, ◌++◌, not, true, List, refl, ap, ◌∙◌}
use Rattle.rmm_model.specs.declared.condition.Condition.TheVariants.{RtteState, RttWalk as WalkEnds}
use Rattle.rmm_model.specs.declared.entry.RmmRttEntry.{RmmRttEntry}
use Rattle.rmm_model.specs.declared.realm.RmmRealm.{RmmRealm}
use Rattle.rmm_model.specs.declared.realm.RttWalk.{RttWalk}
use Rattle.rmm_model.specs.Check.{Check, error_rtt}
use Rattle.rmm_model.specs.Entry.{is_unassigned}
use Rattle.rmm_model.specs.Machine.{Machine}
use Rattle.rmm_model.specs.Walk.{walk, entry_at}
use Rattle.rmi_abi.specs.declared.settings.RmmSettings.{RmmSettings}
use Rattle.rmm_model.specs.Command.DataCreate.{data_create, source_checks, target_checks, is_ripas_right}
use Rattle.rmm_model.specs.Command.Operand.{realm_at, rd_checks, page_checks, new_checks}
use Rattle.rmm_checks.specs.CanWalk.{can_walk}
use Rattle.rmm_checks.specs.Evaluated.{Adds, is_made}
use Rattle.rmm_checks.proofs.Rows.{on, from_none}
use Rattle.rmm_checks.proofs.Walked.{told_where, absent_in, made_in}
use Rattle.rmm_checks.proofs.MayWalk.{before_new_walk, new_page_walk}
use Rattle.rmm_checks.proofs.data.data_create.Goals as goal

pub returns : goal.returns
unfolding data_create source_checks target_checks
returns g c =
    let m : Machine = c.args.granules.now in
    let realm : RmmRealm = realm_at m c.args.rd in
    let found : RttWalk = walk m realm c.args.ipa (3) in
    let entry : RmmRttEntry = entry_at m found c.args.ipa in
    let cs : List Check = ((source_checks m c.args.page c.args.source c.args.flags ++ rd_checks m c.args.rd) ++ page_checks realm c.args.ipa) ++ new_checks realm in
    let groups : Adds c.new-checks.result cs c.add_new.new.checks = on (on (on c.add_source.ensures.rows c.add_rd.ensures.rows) c.add_page.ensures.rows) c.add_new.ensures.rows in
    let before = from_none c.new-checks.ensures groups in
    let may : is_made c.add_new.new.checks before_new_walk ≡ true → can_walk m c.args.rd c.args.ipa 3 ≡ true = λ made. new_page_walk m c.args.rd c.args.ipa cs (made_in cs before_new_walk 2 before made) refl refl in
    let level_is : can_walk m c.args.rd c.args.ipa (3) ≡ true → c.reach-reached.result.level ≡ found.level = c.reach-reached.ensures.level in
    let entry_is : can_walk m c.args.rd c.args.ipa (3) ≡ true → c.reach-reached.result.entry ≡ entry = c.reach-reached.ensures.entry in
    let rows = c.add_entry.ensures.rows (found.level == 3) (is_unassigned entry) (error_rtt found.level)
    (λ made. let can = may made in (ap (λ (n : ℕ). n == 3) (level_is can), (c.is_unassigned-fits.ensures ∙ ap is_unassigned (entry_is can), c.only-answer.ensures ∙ ap error_rtt (level_is can))))
    (absent_in cs WalkEnds before refl) in
    from_none c.new-checks.ensures (on (on groups rows) (told_where (λ made.
    let both = c.add_entry.ensures.passed (absent_in cs WalkEnds before refl) (absent_in cs RtteState before refl) made in
    let can = may both.0 in
    (ap not (c.is_ripas_right-right.ensures ∙ ap (λ (s : RmmSettings). is_ripas_right s c.reach-reached.result.entry) c.settings.ensures.value ∙ ap (is_ripas_right m.settings) (entry_is can)), ap error_rtt (level_is can)))
    c.rtt.ensures.rows))

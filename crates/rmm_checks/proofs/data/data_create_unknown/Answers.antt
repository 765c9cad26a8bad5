use Rattle.std.proofs.Common.{◌≡◌, ℕ, ◌==◌, ◌++◌, true, List, refl, ap, ◌∙◌}
use Rattle.rmm_model.specs.declared.condition.Condition.TheVariants.{DataAlign, DataBound, DataState, RttWalk as WalkEnds}
use Rattle.rmm_model.specs.declared.entry.RmmRttEntry.{RmmRttEntry}
use Rattle.rmm_model.specs.declared.realm.RmmRealm.{RmmRealm}
use Rattle.rmm_model.specs.declared.realm.RttWalk.{RttWalk}
use Rattle.rmm_model.specs.Check.{Check, error_rtt}
use Rattle.rmm_model.specs.Entry.{is_unassigned}
use Rattle.rmm_model.specs.Machine.{Machine}
use Rattle.rmm_model.specs.Walk.{walk, entry_at}
use Rattle.rmm_model.specs.Command.DataCreateUnknown.{data_create_unknown}
use Rattle.rmm_model.specs.Command.Operand.{realm_at, delegated_checks, rd_checks, page_checks}
use Rattle.rmm_checks.specs.CanWalk.{can_walk}
use Rattle.rmm_checks.specs.Evaluated.{Adds, is_made}
use Rattle.rmm_checks.proofs.Rows.{on, from_none}
use Rattle.rmm_checks.proofs.Walked.{absent_in, made_in}
use Rattle.rmm_checks.proofs.MayWalk.{before_walk, page_walk}
use Rattle.rmm_checks.proofs.data.data_create_unknown.Goals as goal

pub returns : goal.returns
unfolding data_create_unknown
returns g c =
    let m : Machine = c.args.granules.now in
    let realm : RmmRealm = realm_at m c.args.rd in
    let found : RttWalk = walk m realm c.args.ipa (3) in
    let entry : RmmRttEntry = entry_at m found c.args.ipa in
    let cs : List Check = (delegated_checks DataAlign DataBound DataState m c.args.page ++ rd_checks m c.args.rd) ++ page_checks realm c.args.ipa in
    let groups : Adds c.new-checks.result cs c.add_page.new.checks = on (on c.add_delegated.ensures.rows c.add_rd.ensures.rows) c.add_page.ensures.rows in
    let before = from_none c.new-checks.ensures groups in
    let may : is_made c.add_page.new.checks before_walk ≡ true → can_walk m c.args.rd c.args.ipa 3 ≡ true = λ made. page_walk m c.args.rd c.args.ipa cs (made_in cs before_walk 2 before made) refl refl in
    let level_is : can_walk m c.args.rd c.args.ipa (3) ≡ true → c.reach-reached.result.level ≡ found.level = c.reach-reached.ensures.level in
    let entry_is : can_walk m c.args.rd c.args.ipa (3) ≡ true → c.reach-reached.result.entry ≡ entry = c.reach-reached.ensures.entry in
    let rows = c.add_entry.ensures.rows (found.level == 3) (is_unassigned entry) (error_rtt found.level)
    (λ made. let can = may made in (ap (λ (n : ℕ). n == 3) (level_is can), (c.is_unassigned-fits.ensures ∙ ap is_unassigned (entry_is can), c.only-answer.ensures ∙ ap error_rtt (level_is can))))
    (absent_in cs WalkEnds before refl) in
    from_none c.new-checks.ensures (on groups rows)

use Rattle.std.proofs.Common.{◌≡◌, ◌++◌, true, List, refl, ap, ◌∙◌}
use Rattle.rmm_model.specs.declared.condition.Condition.TheVariants.{BaseAlign}
use Rattle.rmm_model.specs.declared.entry.RmmRttEntry.{RmmRttEntry}
use Rattle.rmm_model.specs.declared.realm.RmmRealm.{RmmRealm}
use Rattle.rmm_model.specs.declared.realm.RttWalk.{RttWalk}
use Rattle.rmm_model.specs.Check.{Check}
use Rattle.rmm_model.specs.Entry.{can_change}
use Rattle.rmm_model.specs.Machine.{Machine}
use Rattle.rmm_model.specs.Walk.{walk, entry_at}
use Rattle.rmm_model.specs.Command.RttInitRipas.{rtt_init_ripas, range_checks, init_changeable}
use Rattle.rmm_model.specs.Command.Operand.{realm_at, rd_checks}
use Rattle.rmm_checks.specs.CanWalk.{can_walk}
use Rattle.rmm_checks.specs.Evaluated.{Adds, is_made}
use Rattle.rmm_checks.proofs.Rows.{on, told, from_none}
use Rattle.rmm_checks.proofs.Walked.{absent_in, made_in}
use Rattle.rmm_checks.proofs.MayWalk.{before_range, range_walk}
use Rattle.rmm_model.specs.Command.RipasRange.{size_checks}
use Rattle.rmm_model.specs.declared.entry.Changeable.{Changeable}
use Rattle.rmm_checks.proofs.ripas.rtt_init_ripas.Goals as goal

pub returns : goal.returns
unfolding rtt_init_ripas range_checks
returns g c =
    let m : Machine = c.args.granules.now in
    let realm : RmmRealm = realm_at m c.args.rd in
    let found : RttWalk = walk m realm c.args.base 3 in
    let entry : RmmRttEntry = entry_at m found c.args.base in
    let cs : List Check = (size_checks c.args.base c.args.top ++ rd_checks m c.args.rd) ++ range_checks realm c.args.base c.args.top in
    let groups : Adds c.new-checks.result cs c.add_range.new.checks = on (on (told c.is_empty.ensures c.input.ensures.rows) c.add_rd.ensures.rows) c.add_range.ensures.rows in
    let before = from_none c.new-checks.ensures groups in
    let may : is_made c.add_range.new.checks before_range ≡ true → can_walk m c.args.rd c.args.base 3 ≡ true = λ made. range_walk m c.args.rd c.args.base cs (made_in cs before_range 2 before made) refl refl in
    let rows = c.add_progress.ensures.rows found.level (can_change (init_changeable m.settings) entry)
    (λ made. let can = may made in (c.reach-reached.ensures.level can, c.can_change-changes.ensures ∙ ap (λ (it : Changeable). can_change it c.reach-reached.result.entry) (c.init_changeable-changeable.ensures ∙ ap init_changeable c.settings.ensures.value) ∙ ap (can_change (init_changeable m.settings)) (c.reach-reached.ensures.entry can))) (absent_in cs BaseAlign before refl) in
    from_none c.new-checks.ensures (on groups rows)

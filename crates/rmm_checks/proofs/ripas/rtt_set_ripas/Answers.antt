use Rattle.std.proofs.Common.{nat_le, ◌≡◌, ◌++◌, true, List, refl, ap, ◌∙◌}
use Rattle.rmm_model.specs.declared.condition.Condition.TheVariants.{BaseAlign, RecAlign, RecBound, RecGranState}
use Rattle.rmm_model.specs.declared.entry.RmmRttEntry.{RmmRttEntry}
use Rattle.rmm_model.specs.declared.realm.RmmRealm.{RmmRealm}
use Rattle.rmm_model.specs.declared.realm.RttWalk.{RttWalk}
use Rattle.rmm_model.specs.Check.{Check}
use Rattle.rmm_model.specs.Entry.{can_change}
use Rattle.rmm_model.specs.Machine.{Machine}
use Rattle.rmm_model.specs.Walk.{walk, entry_at}
use Rattle.rmm_model.specs.Command.RttSetRipas.{rtt_set_ripas, ripas_request_checks, set_changeable, is_rec_of}
use Rattle.rmm_model.specs.Command.Operand.{realm_at, rd_checks, rec_checks, rec_at}
use Rattle.rmm_checks.specs.CanWalk.{can_walk}
use Rattle.rmm_checks.specs.Evaluated.{Adds, is_made}
use Rattle.rmm_checks.proofs.Rows.{on, told, from_none}
use Rattle.rmm_checks.proofs.Walked.{absent_in, made_in}
use Rattle.rmm_checks.proofs.MayWalk.{before_request, request_walk}
use Rattle.rmm_model.specs.Command.RipasRange.{size_checks}
use Rattle.rmm_model.specs.declared.entry.Changeable.{Changeable}
use Rattle.rmm_model.specs.declared.rec.RmmRec.{RmmRec}
use Rattle.rmm_checks.proofs.ripas.rtt_set_ripas.Goals as goal

pub returns : goal.returns
unfolding rtt_set_ripas ripas_request_checks
returns g c =
    let m : Machine = c.args.granules.now in
    let realm : RmmRealm = realm_at m c.args.rd in
    let asking : RmmRec = rec_at m c.args.rec in
    let found : RttWalk = walk m realm c.args.base 3 in
    let entry : RmmRttEntry = entry_at m found c.args.base in
    let cs : List Check = ((size_checks c.args.base c.args.top ++ rd_checks m c.args.rd) ++ rec_checks RecAlign RecBound RecGranState m c.args.rec) ++ ripas_request_checks realm asking (is_rec_of m c.args.rd c.args.rec) c.args.base c.args.top in
    let groups : Adds c.new-checks.result cs c.add_request.new.checks = on (on (on (told c.is_empty.ensures c.input.ensures.rows) c.add_rd.ensures.rows) c.add_rec.ensures.rows) c.add_request.ensures.rows in
    let before = from_none c.new-checks.ensures groups in
    let may : is_made c.add_request.new.checks before_request ≡ true → can_walk m c.args.rd c.args.base 3 ≡ true = λ made. request_walk m c.args.rd c.args.base cs (is_rec_of m c.args.rd c.args.rec) (nat_le c.args.top asking.ripas.top) (nat_le c.args.top c.args.base) (made_in cs before_request 2 before made) refl refl refl refl in
    let rows = c.add_progress.ensures.rows found.level (can_change (set_changeable asking.ripas) entry)
    (λ made. let can = may made in (c.reach-reached.ensures.level can, c.can_change-changes.ensures ∙ ap (λ (it : Changeable). can_change it c.reach-reached.result.entry) (c.set_changeable-changeable.ensures ∙ ap (λ (r : RmmRec). set_changeable r.ripas) c.rec_at-asking.ensures) ∙ ap (can_change (set_changeable asking.ripas)) (c.reach-reached.ensures.entry can))) (absent_in cs BaseAlign before refl) in
    from_none c.new-checks.ensures (on groups rows)

use Rattle.std.proofs.Common.{refl, sym, ap, ◌∙◌}
use Rattle.std.specs.Option.{option_copied}
use Rattle.realm_model.specs.Rows.{Walk, data_of}
use Rattle.realm_model.specs.Command.Check.{error_rtt}
use Rattle.realm_model.specs.Command.Rec.{guest_write}
use Rattle.rmi_monitor.proofs.DataBytes.{page_inside, page_taken, whole_written}
use Rattle.rmi_monitor.proofs.Granules.{has_fields, in_granules}
use Rattle.rmi_monitor.proofs.GuestWrites.{write_unprotected, write_ready, write_unassigned, write_done}
use Rattle.rmi_monitor.proofs.Located.{located_tables, located_inside}
use Rattle.rmi_monitor.proofs.RecFound.{on_none}
use Rattle.rmi_monitor.proofs.RecReads.{rec_place, rec_read, some_rd, realm_place, some_realm, kept_there}
use Rattle.rmi_monitor.proofs.monitor.Monitor.guest_write.Goals as goal

pub index-requires : goal.index-requires
index-requires g c = rec_place (has_fields c.self.view_is c.self.invariant) c.requires.inside c.number.ensures.value c.self.inside.recs.ok.0

pub returns-in_default : goal.returns-in_default
returns-in_default g c =
    on_none c.args.self.now _ c.self.view_is c.self.invariant (λ rd number. guest_write rd number c.args.ipa c.args.offset c.args.value) c.args.rec c.args.self.now
    (rec_read (has_fields c.self.view_is c.self.invariant) c.requires.inside c.number.ensures.value c.index.ensures c.in_default.is) refl

pub realm_of-requires : goal.realm_of-requires
realm_of-requires g c = in_granules c.args.self.now _ c.self.view_is c.self.invariant c.args.rec c.requires

pub unwrap-rd-requires : goal.unwrap-rd-requires
unwrap-rd-requires g c =
    let at = rec_read (has_fields c.self.view_is c.self.invariant) c.requires.inside c.number.ensures.value c.index.ensures c.in-Some.is in
    some_rd _ c.self.invariant c.args.rec c.in-Some.writer at c.realm_of.ensures

pub index-requires-2 : goal.index-requires-2
index-requires-2 g c =
    let at = rec_read (has_fields c.self.view_is c.self.invariant) c.requires.inside c.number.ensures.value c.index.ensures c.in-Some.is in
    realm_place _ c.self.invariant c.args.rec c.in-Some.writer at c.unwrap-rd.result (sym c.realm_of.ensures ∙ c.unwrap-rd.ensures) c.number-2.result c.number-2.ensures.value c.self.inside.realms.ok.0

pub unwrap-realm-requires : goal.unwrap-realm-requires
unwrap-realm-requires g c =
    let at = rec_read (has_fields c.self.view_is c.self.invariant) c.requires.inside c.number.ensures.value c.index.ensures c.in-Some.is in
    let of = sym c.realm_of.ensures ∙ c.unwrap-rd.ensures in
    c.as_ref.ensures.variant ∙ some_realm _ c.self.invariant c.args.rec c.in-Some.writer at c.unwrap-rd.result of c.number-2.result c.number-2.ensures.value c.index-2.ensures

pub returns-in_default-located : goal.returns-in_default-located
returns-in_default-located g c =
    let at = rec_read (has_fields c.self.view_is c.self.invariant) c.requires.inside c.number.ensures.value c.index.ensures c.in-Some.is in
    let kept = kept_there _ c.self.invariant c.args.rec c.in-Some.writer at c.unwrap-rd.result (sym c.realm_of.ensures ∙ c.unwrap-rd.ensures)
    c.number-2.result c.number-2.ensures.value c.index-2.ensures (sym c.as_ref.ensures.value ∙ ap option_copied c.unwrap-realm.ensures) in
    write_unprotected c.args.self.now _ c.self.view_is c.self.invariant c.args.rec c.in-Some.writer c.unwrap-rd.result c.unwrap-realm.result.now kept c.args.ipa c.args.offset c.args.value
    c.in_default-located.ensures.none

pub returns-then-is_ready : goal.returns-then-is_ready
returns-then-is_ready g c =
    let at = rec_read (has_fields c.self.view_is c.self.invariant) c.requires.inside c.number.ensures.value c.index.ensures c.in-Some.is in
    let kept = kept_there _ c.self.invariant c.args.rec c.in-Some.writer at c.unwrap-rd.result (sym c.realm_of.ensures ∙ c.unwrap-rd.ensures)
    c.number-2.result c.number-2.ensures.value c.index-2.ensures (sym c.as_ref.ensures.value ∙ ap option_copied c.unwrap-realm.ensures) in
    write_ready c.args.self.now _ c.self.view_is c.self.invariant c.args.rec c.in-Some.writer c.unwrap-rd.result c.unwrap-realm.result.now kept c.args.ipa c.args.offset c.args.value
    c.in-Some-located.ensures.some (sym c.is_ready.ensures ∙ c.if-is_ready.true)

pub walk-walk-requires : goal.walk-walk-requires
walk-walk-requires g c =
    let at = rec_read (has_fields c.self.view_is c.self.invariant) c.requires.inside c.number.ensures.value c.index.ensures c.in-Some.is in
    let kept = kept_there _ c.self.invariant c.args.rec c.in-Some.writer at c.unwrap-rd.result (sym c.realm_of.ensures ∙ c.unwrap-rd.ensures)
    c.number-2.result c.number-2.ensures.value c.index-2.ensures (sym c.as_ref.ensures.value ∙ ap option_copied c.unwrap-realm.ensures) in
    record {
      as_many = c.self.invariant.backed.as_many;
      tables = located_tables c.in-Some-located.ensures.some c.self.invariant kept.there;
      inside = located_inside c.in-Some-located.ensures.some;
    }

pub returns-in_default-page : goal.returns-in_default-page
returns-in_default-page g c =
    let at = rec_read (has_fields c.self.view_is c.self.invariant) c.requires.inside c.number.ensures.value c.index.ensures c.in-Some.is in
    let kept = kept_there _ c.self.invariant c.args.rec c.in-Some.writer at c.unwrap-rd.result (sym c.realm_of.ensures ∙ c.unwrap-rd.ensures)
    c.number-2.result c.number-2.ensures.value c.index-2.ensures (sym c.as_ref.ensures.value ∙ ap option_copied c.unwrap-realm.ensures) in
    write_unassigned c.args.self.now _ c.self.view_is c.self.invariant c.args.rec c.in-Some.writer c.unwrap-rd.result c.unwrap-realm.result.now kept c.args.ipa c.args.offset c.args.value
    c.in-Some-located.ensures.some (sym c.is_ready.ensures ∙ c.if-is_ready.false) c.last.ensures c.walk-walk.result c.walk-walk.ensures.walk
    _ (c.from.ensures ∙ ap (λ (w : Walk). error_rtt w.level) c.walk.view_is)
    (ap (λ (w : Walk). data_of w.row) (sym c.walk.view_is) ∙ sym c.page.ensures ∙ c.in_default-page.is)

pub set-requires : goal.set-requires
set-requires g c =
    let leads = ap (λ (w : Walk). data_of w.row) (sym c.walk.view_is) ∙ sym c.page.ensures ∙ c.in-Some-page.is in
    let page = c.walk-walk.ensures.page c.in-Some-page.page leads in
    record {
      inside = page_inside _ c.self.invariant _ c.in-Some-page.page c.args.offset c.args.value page;
      taken = page_taken _ c.self.invariant _ c.in-Some-page.page c.args.offset c.args.value page;
    }

pub invariant_of-self : goal.invariant_of-self
invariant_of-self g c =
    let leads = ap (λ (w : Walk). data_of w.row) (sym c.walk.view_is) ∙ sym c.page.ensures ∙ c.in-Some-page.is in
    whole_written _ c.self.invariant _ c.in-Some-page.page c.args.offset c.args.value (c.walk-walk.ensures.page c.in-Some-page.page leads) _ _ c.set.ensures.written c.set.ensures.flags

pub returns : goal.returns
returns g c =
    let at = rec_read (has_fields c.self.view_is c.self.invariant) c.requires.inside c.number.ensures.value c.index.ensures c.in-Some.is in
    let kept = kept_there _ c.self.invariant c.args.rec c.in-Some.writer at c.unwrap-rd.result (sym c.realm_of.ensures ∙ c.unwrap-rd.ensures)
    c.number-2.result c.number-2.ensures.value c.index-2.ensures (sym c.as_ref.ensures.value ∙ ap option_copied c.unwrap-realm.ensures) in
    let leads = ap (λ (w : Walk). data_of w.row) (sym c.walk.view_is) ∙ sym c.page.ensures ∙ c.in-Some-page.is in
    write_done c.args.self.now _ c.self.view_is c.self.invariant c.args.rec c.in-Some.writer c.unwrap-rd.result c.unwrap-realm.result.now kept c.args.ipa c.args.offset c.args.value
    c.in-Some-located.ensures.some (sym c.is_ready.ensures ∙ c.if-is_ready.false) c.last.ensures c.walk-walk.result c.walk-walk.ensures.walk
    c.in-Some-page.page leads (c.walk-walk.ensures.page c.in-Some-page.page leads) _ _ c.set.ensures.written c.set.ensures.flags

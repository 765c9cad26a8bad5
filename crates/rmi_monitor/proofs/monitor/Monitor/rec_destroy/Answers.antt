use Rattle.std.proofs.Common.{refl, sym, ap, subst, ◌∙◌, ◌≤◌}
use Rattle.realm_model.specs.Command.Rec.{rec_destroy}
use Rattle.rmi_monitor.specs.Inside.{seen_as, IsWhole}
use Rattle.rmi_monitor.proofs.RecDestroys.{rec_page, rec_stands, aux_distinct, aux_stand, aux_pages, gone_by, not_ready, ready}
use Rattle.rmi_monitor.proofs.Granules.{has_fields, in_granules}
use Rattle.rmi_monitor.proofs.RealmPlaces.{realm_inside}
use Rattle.rmi_monitor.proofs.RecReads.{rec_place, rec_read, some_rd, its_realm, kept_by, count_place, count_read, some_recs}
use Rattle.rmi_monitor.proofs.RecFound.{on_none, kept_at}
use Rattle.rmi_monitor.proofs.RecGoneAfter.{whole_gone}
use Rattle.rmi_monitor.proofs.monitor.Monitor.rec_destroy.Goals as goal

pub index-requires : goal.index-requires
index-requires g c = rec_place (has_fields c.self.view_is c.self.invariant) c.requires.inside c.number.ensures.value c.self.inside.recs.ok.0

pub returns-in_default : goal.returns-in_default
returns-in_default g c =
    let at = rec_read (has_fields c.self.view_is c.self.invariant) c.requires.inside c.number.ensures.value c.index.ensures c.in_default.is in
    on_none c.args.self.now _ c.self.view_is c.self.invariant rec_destroy c.args.rec {A = Unit {0}} _ at refl

pub returns-then-not-is_ready : goal.returns-then-not-is_ready
returns-then-not-is_ready g c =
    let at = rec_read (has_fields c.self.view_is c.self.invariant) c.requires.inside c.number.ensures.value c.index.ensures c.in-Some.is in
    not_ready c.args.self.now _ c.self.view_is c.self.invariant c.args.rec c.in-Some.kept _ _ (kept_at _ c.self.invariant c.args.rec c.in-Some.kept at) c.is_ready.result _ c.is_ready.ensures
    c.if-not-is_ready.true refl

pub realm_of-requires : goal.realm_of-requires
realm_of-requires g c = in_granules c.args.self.now _ c.self.view_is c.self.invariant c.args.rec c.requires

pub unwrap-rd-requires : goal.unwrap-rd-requires
unwrap-rd-requires g c =
    let at = rec_read (has_fields c.self.view_is c.self.invariant) c.requires.inside c.number.ensures.value c.index.ensures c.in-Some.is in
    some_rd _ c.self.invariant c.args.rec c.in-Some.kept at c.realm_of.ensures

pub release-requires-clause-page : goal.release-requires-clause-page
release-requires-clause-page g c =
    let at = rec_read (has_fields c.self.view_is c.self.invariant) c.requires.inside c.number.ensures.value c.index.ensures c.in-Some.is in
    rec_page _ c.self.invariant c.args.rec c.in-Some.kept at

pub release-requires-clause-stands : goal.release-requires-clause-stands
release-requires-clause-stands g c =
    let at = rec_read (has_fields c.self.view_is c.self.invariant) c.requires.inside c.number.ensures.value c.index.ensures c.in-Some.is in
    rec_stands _ c.self.invariant c.args.rec c.in-Some.kept at

pub release_all-requires-clause-pages : goal.release_all-requires-clause-pages
release_all-requires-clause-pages g c =
    let at = rec_read (has_fields c.self.view_is c.self.invariant) c.requires.inside c.number.ensures.value c.index.ensures c.in-Some.is in
    aux_pages _ c.self.invariant c.args.rec c.in-Some.kept at c.auxiliaries.result.now c.auxiliaries.ensures.value _ _ c.release.ensures.cleared c.release.ensures.flags

pub release_all-requires-clause-stand : goal.release_all-requires-clause-stand
release_all-requires-clause-stand g c =
    let at = rec_read (has_fields c.self.view_is c.self.invariant) c.requires.inside c.number.ensures.value c.index.ensures c.in-Some.is in
    aux_stand _ c.self.invariant c.args.rec c.in-Some.kept at c.auxiliaries.result.now c.auxiliaries.ensures.value c.release.new.granules c.release.ensures.shifted

pub release_all-requires-clause-distinct : goal.release_all-requires-clause-distinct
release_all-requires-clause-distinct g c =
    let at = rec_read (has_fields c.self.view_is c.self.invariant) c.requires.inside c.number.ensures.value c.index.ensures c.in-Some.is in
    aux_distinct _ c.self.invariant c.args.rec c.in-Some.kept at c.auxiliaries.result.now c.auxiliaries.ensures.value

pub index_mut-requires : goal.index_mut-requires
index_mut-requires g c = rec_place (has_fields c.self.view_is c.self.invariant) c.requires.inside c.number-2.ensures.value c.self.inside.recs.ok.0

pub index_mut-requires-2 : goal.index_mut-requires-2
index_mut-requires-2 g c =
    let at = rec_read (has_fields c.self.view_is c.self.invariant) c.requires.inside c.number.ensures.value c.index.ensures c.in-Some.is in
    let of = sym c.realm_of.ensures ∙ c.unwrap-rd.ensures in
    let inside = realm_inside _ c.self.invariant c.unwrap-rd.result _ (its_realm _ c.self.invariant c.args.rec c.in-Some.kept at c.unwrap-rd.result of) in
    count_place _ c.self.invariant c.unwrap-rd.result inside c.number-3.result c.number-3.ensures.value c.self.inside.rec_counts.ok.0

pub overflow_sub-index_mut : goal.overflow_sub-index_mut
overflow_sub-index_mut g c =
    let at = rec_read (has_fields c.self.view_is c.self.invariant) c.requires.inside c.number.ensures.value c.index.ensures c.in-Some.is in
    let of = sym c.realm_of.ensures ∙ c.unwrap-rd.ensures in
    let inside = realm_inside _ c.self.invariant c.unwrap-rd.result _ (its_realm _ c.self.invariant c.args.rec c.in-Some.kept at c.unwrap-rd.result of) in
    let read = count_read _ c.self.invariant c.unwrap-rd.result inside c.number-3.result c.number-3.ensures.value c.index_mut-2.result.now c.index_mut-2.ensures.value in
    let some = some_recs _ c.self.invariant c.args.rec c.in-Some.kept c.unwrap-rd.result _ (kept_by _ c.self.invariant c.args.rec c.in-Some.kept at c.unwrap-rd.result of) in
    subst (λ n. 1 ≤ n) (sym read) some

pub invariant_of-self : goal.invariant_of-self
invariant_of-self g c =
    let at = rec_read (has_fields c.self.view_is c.self.invariant) c.requires.inside c.number.ensures.value c.index.ensures c.in-Some.is in
    let of = sym c.realm_of.ensures ∙ c.unwrap-rd.ensures in
    let inside = realm_inside _ c.self.invariant c.unwrap-rd.result _ (its_realm _ c.self.invariant c.args.rec c.in-Some.kept at c.unwrap-rd.result of) in
    let read = count_read _ c.self.invariant c.unwrap-rd.result inside c.number-3.result c.number-3.ensures.value c.index_mut-2.result.now c.index_mut-2.ensures.value in
    subst IsWhole (sym (gone_by _ c.self.invariant c.args.rec c.in-Some.kept at c.unwrap-rd.result c.release_all.new.granules c.release.new.granules _ _ _ _ c.auxiliaries.result.now
    c.number-2.result c.number-3.result c.index_mut-2.result.now
    c.auxiliaries.ensures.value c.number-2.ensures.value c.release.ensures.shifted c.release_all.ensures.shifted c.release.ensures.cleared c.release_all.ensures.cleared c.release.ensures.flags
    c.release_all.ensures.flags
    c.number-3.ensures.value read))
    (whole_gone _ c.self.invariant _ c.args.rec c.in-Some.kept _ (kept_by _ c.self.invariant c.args.rec c.in-Some.kept at c.unwrap-rd.result of))

pub returns : goal.returns
returns g c =
    let at = rec_read (has_fields c.self.view_is c.self.invariant) c.requires.inside c.number.ensures.value c.index.ensures c.in-Some.is in
    let of = sym c.realm_of.ensures ∙ c.unwrap-rd.ensures in
    let inside = realm_inside _ c.self.invariant c.unwrap-rd.result _ (its_realm _ c.self.invariant c.args.rec c.in-Some.kept at c.unwrap-rd.result of) in
    let read = count_read _ c.self.invariant c.unwrap-rd.result inside c.number-3.result c.number-3.ensures.value c.index_mut-2.result.now c.index_mut-2.ensures.value in
    ready c.args.self.now _ c.self.view_is c.self.invariant c.args.rec c.in-Some.kept _ _ (kept_by _ c.self.invariant c.args.rec c.in-Some.kept at c.unwrap-rd.result of) c.is_ready.result _
    c.is_ready.ensures c.if-not-is_ready.false
    (ap seen_as (gone_by _ c.self.invariant c.args.rec c.in-Some.kept at c.unwrap-rd.result c.release_all.new.granules c.release.new.granules _ _ _ _ c.auxiliaries.result.now c.number-2.result
    c.number-3.result c.index_mut-2.result.now
    c.auxiliaries.ensures.value c.number-2.ensures.value c.release.ensures.shifted c.release_all.ensures.shifted c.release.ensures.cleared c.release_all.ensures.cleared c.release.ensures.flags
    c.release_all.ensures.flags
    c.number-3.ensures.value read))

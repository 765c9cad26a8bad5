use Rattle.std.proofs.Common.{sym, ◌∙◌}
use Rattle.rmi_monitor.proofs.Granules.{has_fields}
use Rattle.rmi_monitor.proofs.Located.{locates_new}
use Rattle.rmi_monitor.proofs.RealmFound.{realm_place, realm_read}
use Rattle.rmi_monitor.proofs.TableRipas.{ripas_nowhere, ripas_no_run, ripas_not_new}
use Rattle.rmi_monitor.proofs.monitor.Monitor.check_run.Goals as goal

pub index-requires : goal.index-requires
index-requires g c = realm_place (has_fields c.self.view_is c.self.invariant) c.requires.inside c.number.ensures.value c.self.inside.realms.ok.0

pub returns-in_default : goal.returns-in_default
returns-in_default g c =
    let has = has_fields c.self.view_is c.self.invariant in
    record { ok = tt; err = ripas_nowhere has c.requires c.args.ipa c.args.count (realm_read has c.requires.inside c.number.ensures.value c.index.ensures c.in_default.is) }

pub returns-in_default-located_run : goal.returns-in_default-located_run
returns-in_default-located_run g c =
    let has = has_fields c.self.view_is c.self.invariant in
    let there = realm_read has c.requires.inside c.number.ensures.value c.index.ensures c.in-Some.is in
    record { ok = tt; err = ripas_no_run has c.requires c.args.ipa c.args.count there c.in_default-located_run.ensures.none }

pub returns-then-not-is_new : goal.returns-then-not-is_new
returns-then-not-is_new g c =
    let has = has_fields c.self.view_is c.self.invariant in
    let there = realm_read has c.requires.inside c.number.ensures.value c.index.ensures c.in-Some.is in
    let active = sym c.is_new.ensures ∙ c.if-not-is_new.true in
    record { ok = tt; err = ripas_not_new has c.requires c.args.ipa c.args.count there c.in-Some-located_run.ensures.some active }

pub returns : goal.returns
returns g c =
    let has = has_fields c.self.view_is c.self.invariant in
    let there = realm_read has c.requires.inside c.number.ensures.value c.index.ensures c.in-Some.is in
    let found = c.in-Some-located_run.ensures.some in
    record { ok = (locates_new has c.args.rd c.args.ipa _ there found.0 (sym c.is_new.ensures ∙ c.if-not-is_new.false), found.1); err = tt }

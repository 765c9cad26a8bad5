use Rattle.std.proofs.Common.{refl}
use Rattle.rmi_monitor.proofs.Granules.{has_fields}
use Rattle.rmi_monitor.proofs.Located.{nowhere_empty, nowhere_outside, locates}
use Rattle.rmi_monitor.proofs.RealmFound.{realm_place, realm_read}
use Rattle.rmi_monitor.proofs.monitor.Monitor.locate.Goals as goal

pub index-requires : goal.index-requires
index-requires g c = realm_place (has_fields c.self.view_is c.self.invariant) c.requires.inside c.number.ensures.value c.self.inside.realms.ok.0

pub returns-in_default : goal.returns-in_default
returns-in_default g c =
    let has = has_fields c.self.view_is c.self.invariant in
    record { ok = tt; err = (refl, nowhere_empty has c.args.rd c.args.ipa (realm_read has c.requires.inside c.number.ensures.value c.index.ensures c.in_default.is)) }

pub returns-in_default-located : goal.returns-in_default-located
returns-in_default-located g c =
    let has = has_fields c.self.view_is c.self.invariant in
    let there = realm_read has c.requires.inside c.number.ensures.value c.index.ensures c.in-Some.is in
    record { ok = tt; err = (refl, nowhere_outside has c.args.rd c.args.ipa _ there c.in_default-located.ensures.none) }

pub returns : goal.returns
returns g c =
    let has = has_fields c.self.view_is c.self.invariant in
    let there = realm_read has c.requires.inside c.number.ensures.value c.index.ensures c.in-Some.is in
    record { ok = locates has c.args.rd c.args.ipa _ there c.in-Some-located.ensures.some; err = tt }

use Rattle.std.proofs.Common.{sym, ◌∙◌}
use Rattle.rmi_monitor.proofs.Granules.{has_fields}
use Rattle.rmi_monitor.proofs.RealmFound.{realm_place, realm_read}
use Rattle.rmi_monitor.proofs.Walked.{no_walk, walk_outside, walk_asks, walk_ends}
use Rattle.rmi_monitor.proofs.monitor.Monitor.walk.Goals as goal

pub index-requires : goal.index-requires
index-requires g c = realm_place (has_fields c.self.view_is c.self.invariant) c.requires c.number.ensures.value c.self.inside.realms.ok.0

pub returns-in_err-realm : goal.returns-in_err-realm
returns-in_err-realm g c =
    let has = has_fields c.self.view_is c.self.invariant in
    let none = realm_read has c.requires c.number.ensures.value c.index.ensures (sym c.in_err-realm.ensures.value) in
    c.from_residual.ensures ∙ sym (no_walk has c.args.rd c.args.ipa c.args.to c.requires none)

pub returns-in_err-ipa : goal.returns-in_err-ipa
returns-in_err-ipa g c =
    let has = has_fields c.self.view_is c.self.invariant in
    let there = realm_read has c.requires c.number.ensures.value c.index.ensures (sym c.in_ok-realm.ensures.value) in
    let width = c.number-2.ensures in
    c.from_residual-in_err-ipa.ensures
    ∙ sym (walk_outside has c.args.rd c.args.ipa c.args.to c.in_ok-realm.realm.now there c.root.result c.root.ensures
    c.number-2.result width.value width.at_least width.at_most c.in_err-ipa.ensures)

pub walk-requires : goal.walk-requires
walk-requires g c =
    let has = has_fields c.self.view_is c.self.invariant in
    let there = realm_read has c.requires c.number.ensures.value c.index.ensures (sym c.in_ok-realm.ensures.value) in
    let width = c.number-2.ensures in
    let asked = walk_asks has c.args.rd c.args.ipa c.args.to c.in_ok-realm.realm.now there c.root.result c.root.ensures
    c.number-2.result width.value width.at_least width.at_most c.in_ok-ipa.ipa c.in_ok-ipa.ensures c.tables_of.result c.tables_of.ensures in
    record { as_many = c.self.invariant.backed.as_many; tables = asked.0; inside = asked.1 }

pub returns : goal.returns
returns g c =
    let there = realm_read (has_fields c.self.view_is c.self.invariant) c.requires c.number.ensures.value c.index.ensures (sym c.in_ok-realm.ensures.value) in
    let width = c.number-2.ensures in
    walk_ends (has_fields c.self.view_is c.self.invariant) c.args.rd c.args.ipa c.args.to c.in_ok-realm.realm.now there c.root.result c.root.ensures
    c.number-2.result width.value width.at_least width.at_most c.in_ok-ipa.ipa c.in_ok-ipa.ensures c.tables_of.result c.tables_of.ensures c.walk.result c.walk.ensures.walk

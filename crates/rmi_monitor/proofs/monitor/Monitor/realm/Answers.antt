use Rattle.std.proofs.Common.{refl, sym, ◌∙◌}
use Rattle.rmi_monitor.proofs.Readings.{attributes_there}
use Rattle.rmi_monitor.proofs.Granules.{has_fields}
use Rattle.rmi_monitor.proofs.RealmFound.{realm_place, realm_read}
use Rattle.rmi_monitor.proofs.monitor.Monitor.realm.Goals as goal

pub index-requires : goal.index-requires
index-requires g c = realm_place (has_fields c.self.view_is c.self.invariant) c.requires c.number.ensures.value c.self.inside.realms.ok.0

pub returns : goal.returns
returns g c =
    c.as_ref.ensures.value
    ∙ sym (realm_read (has_fields c.self.view_is c.self.invariant) c.requires c.number.ensures.value c.index.ensures refl)
    ∙ attributes_there c.args.self.now _ c.self.view_is c.self.invariant c.args.rd c.requires

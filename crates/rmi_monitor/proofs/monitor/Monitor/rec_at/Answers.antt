use Rattle.std.proofs.Common.{refl, sym, ◌∙◌}
use Rattle.rmi_monitor.proofs.Granules.{has_fields}
use Rattle.rmi_monitor.proofs.RecReadings.{rec_there}
use Rattle.rmi_monitor.proofs.RecReads.{rec_place, rec_read}
use Rattle.rmi_monitor.proofs.monitor.Monitor.rec_at.Goals as goal

pub index-requires : goal.index-requires
index-requires g c = rec_place (has_fields c.self.view_is c.self.invariant) c.requires c.number.ensures.value c.self.inside.recs.ok.0

pub returns : goal.returns
returns g c =
    c.as_ref.ensures.value
    ∙ sym (rec_read (has_fields c.self.view_is c.self.invariant) c.requires c.number.ensures.value c.index.ensures refl)
    ∙ rec_there c.args.self.now _ c.self.view_is c.self.invariant c.args.granule

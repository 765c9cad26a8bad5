use Rattle.std.proofs.Common.{refl}
use Rattle.host_ledger.proofs.Readings.{rec_told}
use Rattle.host_ledger.proofs.ledger.HostLedger.rec.Goals as goal

pub returns : goal.returns
returns c = rec_told _ c.self.inside.builds.items c.self.inside.leases c.self.inside.holders c.self.inside.vmids c.self.inside.history c.self.invariant
    c.args.self.now c.self.view_is c.args.build c.requires refl c.number.result c.index-kept.result.now c.number.ensures.value c.index-kept.ensures c.args.number c.granule.result c.granule.ensures

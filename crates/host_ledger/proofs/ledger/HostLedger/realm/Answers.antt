use Rattle.std.proofs.Common.{refl}
use Rattle.host_ledger.proofs.Readings.{rd_told}
use Rattle.host_ledger.proofs.ledger.HostLedger.realm.Goals as goal

pub returns-clause-inside : goal.returns-clause-inside
returns-clause-inside c =
    rd_told _ c.self.inside.builds.items c.self.inside.leases c.self.inside.holders c.self.inside.vmids c.self.inside.history c.self.invariant
    c.args.self.now c.self.view_is c.args.build c.requires refl c.number.result c.index.result.now c.number.ensures.value c.index.ensures

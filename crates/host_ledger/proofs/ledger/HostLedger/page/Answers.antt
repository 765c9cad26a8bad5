use Rattle.std.proofs.Common.{refl}
use Rattle.host_ledger.proofs.Readings.{page_told}
use Rattle.host_ledger.proofs.ledger.HostLedger.page.Goals as goal

pub returns-clause-inside : goal.returns-clause-inside
returns-clause-inside c =
    page_told _ c.self.inside.builds.items c.self.inside.leases c.self.inside.holders c.self.inside.vmids c.self.inside.history c.self.invariant
    c.args.self.now c.self.view_is c.args.build c.requires refl c.args.page c.page.result c.page.ensures

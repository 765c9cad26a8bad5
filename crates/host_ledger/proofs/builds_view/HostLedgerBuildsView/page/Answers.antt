use Rattle.std.proofs.Common.{refl}
use Rattle.host_ledger.proofs.Readings.{few_told}
use Rattle.host_ledger.proofs.builds_view.HostLedgerBuildsView.page.Goals as goal

pub returns-clause-few : goal.returns-clause-few
returns-clause-few c =
    few_told _ c.self.inside.builds.items c.self.inside.leases c.self.inside.holders c.self.inside.vmids c.self.inside.history c.self.invariant
    c.args.self.now c.self.view_is c.args.build c.requires refl c.args.page c.page.result c.page.ensures

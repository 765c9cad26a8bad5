use Rattle.std.proofs.Common.{refl}
use Rattle.host_ledger.proofs.Pointed.{mark_is_valid}
use Rattle.host_ledger.proofs.ledger.HostLedger.mark.Goals as goal

pub returns-clause-stands : goal.returns-clause-stands
returns-clause-stands c =
    mark_is_valid c.self.inside.builds.items c.self.inside.leases c.self.inside.holders c.self.inside.vmids c.self.inside.aux c.self.inside.capacity
    c.self.inside.history c.args.self.now c.self.view_is c.self.invariant c.args.build c.requires
    c.number.result c.index.result.now c.number.ensures.value c.index.ensures c.index.result.now.mark refl

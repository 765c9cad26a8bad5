use Rattle.std.proofs.Common.{arith}
use Rattle.host_ledger.proofs.Pointed.{place_fits}
use Rattle.host_ledger.proofs.ledger.HostLedger.mark_now.Goals as goal

pub overflow_cast-result : goal.overflow_cast-result
overflow_cast-result c =
    let small = place_fits c.self.inside.builds.items c.self.inside.leases c.self.inside.holders c.self.inside.vmids c.self.inside.aux c.self.inside.capacity
    c.self.inside.history c.args.self.now c.self.view_is c.self.invariant c.args.build c.requires in
    let len = c.len.ensures in
    omega (arith, small, len)

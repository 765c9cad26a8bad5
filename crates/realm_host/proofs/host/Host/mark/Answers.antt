use Rattle.std.proofs.Common.{sym, subst}
use Rattle.host_ledger.specs.View.{HostView}
use Rattle.realm_host.specs.Host.{IsWhole}
use Rattle.realm_host.proofs.Calls.{whole_marked}
use Rattle.realm_host.proofs.host.Host.mark.Goals as goal

pub invariant_of-self : goal.invariant_of-self
invariant_of-self g c =
    subst (λ (h : HostView). IsWhole h c.self.inside.monitor) (sym c.keep_mark.ensures.kept)
    (whole_marked c.self.inside.ledger c.self.inside.monitor c.self.invariant c.args.build c.mark_now-mark.result)

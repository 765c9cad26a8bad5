use Rattle.std.proofs.Common.{sym, ◌∙◌}
use Rattle.realm_host.proofs.There.{none_leased}
use Rattle.realm_host.proofs.host.Host.leases_number.Goals as goal

pub returns-in-None : goal.returns-in-None
returns-in-None g c =
    none_leased c.self.inside.ledger c.self.inside.monitor c.self.invariant c.args.self.now c.self.view_is c.args.build c.args.number c.pages.result c.pages.ensures.value c.pages.ensures.few
    (sym c.in-None.is ∙ c.new.ensures)

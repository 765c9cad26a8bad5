use Rattle.std.proofs.Common.{◌∙◌}
use Rattle.realm_host.proofs.Readings.{pages_are}
use Rattle.realm_host.proofs.host.Host.pages.Goals as goal

pub returns : goal.returns
returns g c = c.pages.ensures.value ∙ pages_are c.self.inside.ledger c.self.inside.monitor c.self.invariant c.args.self.now c.self.view_is

use Rattle.realm_host.proofs.Realms.{inside}
use Rattle.realm_host.proofs.host.Host.page_state.Goals as goal

pub state-requires : goal.state-requires
state-requires g c = inside c.self.inside.ledger c.self.inside.monitor c.self.invariant c.args.self.now c.self.view_is c.in_ok-granule.granule c.in_ok-granule.ensures.inside

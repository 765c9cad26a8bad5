use Rattle.realm_host.proofs.Realms.{inside}
use Rattle.realm_host.proofs.host.Host.page_sum.Goals as goal

pub byte_sum-requires : goal.byte_sum-requires
byte_sum-requires g c = inside c.self.inside.ledger c.self.inside.monitor c.self.invariant c.args.self.now c.self.view_is c.in_ok-granule.granule c.in_ok-granule.ensures.inside

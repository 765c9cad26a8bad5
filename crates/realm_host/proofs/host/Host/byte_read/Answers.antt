use Rattle.realm_host.proofs.Leased.{first_taken}
use Rattle.realm_host.proofs.host.Host.byte_read.Goals as goal

pub host_peek-requires : goal.host_peek-requires
host_peek-requires g c =
    first_taken c.self.inside.ledger c.self.inside.monitor c.self.invariant c.args.self.now c.self.view_is c.args.build c.args.cmd.now c.args.granules.now
    c.requires.leased c.requires.named c.in-Peek.page c.in-Peek.offset c.in-Peek.is c.index-granules-0.result c.index-granules-0.is

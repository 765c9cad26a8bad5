use Rattle.std.specs.Option.{option_copied}
use Rattle.realm_host.proofs.Realms.{rd_inside, there_is}
use Rattle.realm_host.proofs.host.Host.realm.Goals as goal

pub realm-requires-in-Some : goal.realm-requires-in-Some
realm-requires-in-Some g c = rd_inside c.self.inside.ledger c.self.inside.monitor c.self.invariant c.args.self.now c.self.view_is c.args.build c.in-Some.rd c.in-Some.ensures.inside

pub returns-in-Some : goal.returns-in-Some
returns-in-Some g c =
    there_is c.self.inside.ledger c.self.inside.monitor c.self.invariant c.args.self.now c.self.view_is c.args.build c.in-Some.rd
    (option_copied c.realm-in-Some.result) c.in-Some.ensures.value c.realm-in-Some.ensures

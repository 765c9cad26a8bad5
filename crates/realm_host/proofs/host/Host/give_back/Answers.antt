use Rattle.realm_host.proofs.Blocked.{givable, can_give, whole_given, give_recorded}
use Rattle.realm_host.proofs.host.Host.give_back.Goals as goal

pub give-requires : goal.give-requires
give-requires g c = givable c.self.inside.ledger c.self.inside.monitor c.self.invariant c.args.self.now c.self.view_is c.args.build c.args.order c.requires.there c.args.first c.requires.newest

pub record-requires-clause-can : goal.record-requires-clause-can
record-requires-clause-can g c =
    can_give c.self.inside.ledger c.self.inside.monitor c.self.invariant c.args.self.now c.self.view_is c.args.build c.args.order c.requires.there
    c.args.first c.requires.newest c.give.new.self c.give.ensures

pub invariant_of-self : goal.invariant_of-self
invariant_of-self g c =
    whole_given c.self.inside.ledger c.self.inside.monitor c.self.invariant c.args.self.now c.self.view_is c.args.build c.args.order c.requires.there
    c.args.first c.requires.newest c.give.new.self c.give.ensures c.record.new.self c.record.ensures

pub returns : goal.returns
returns g c = give_recorded c.self.inside.ledger c.self.inside.monitor c.self.invariant c.args.self.now c.self.view_is c.args.build c.args.order
    c.requires.there c.args.first c.requires.newest c.give.new.self c.give.ensures c.record.new.self c.record.ensures

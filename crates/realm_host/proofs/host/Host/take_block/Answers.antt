use Rattle.realm_host.proofs.Blocked.{none_free, one_free, can_take, whole_taken, take_recorded}
use Rattle.realm_host.proofs.host.Host.take_block.Goals as goal

pub record-requires-clause-can : goal.record-requires-clause-can
record-requires-clause-can g c =
    can_take c.self.inside.ledger c.self.inside.monitor c.self.invariant c.args.self.now c.self.view_is c.args.build c.args.order c.requires.there c.requires.low c.in-Some.first
    (c.requires.room c.in-Some.first) c.in-Some.ensures.block c.take.new.self c.in-Some.ensures.taken

pub invariant_of-self : goal.invariant_of-self
invariant_of-self g c =
    whole_taken c.self.inside.ledger c.self.inside.monitor c.self.invariant c.args.self.now c.self.view_is c.args.build c.args.order c.requires.there
    c.requires.low c.in-Some.first (c.requires.room c.in-Some.first) c.in-Some.ensures.block c.take.new.self c.in-Some.ensures.taken c.record.new.self c.record.ensures

pub returns-in-Some : goal.returns-in-Some
returns-in-Some g c = (
  one_free c.self.inside.ledger c.self.inside.monitor c.self.invariant c.args.self.now c.self.view_is c.args.build c.args.order c.requires.there c.requires.low c.in-Some.first
      (c.requires.room c.in-Some.first) c.in-Some.ensures.block c.take.new.self c.in-Some.ensures.taken,
  take_recorded c.self.inside.ledger c.self.inside.monitor
      c.self.invariant c.args.self.now c.self.view_is c.args.build c.args.order c.requires.there c.requires.low c.in-Some.first
      (c.requires.room c.in-Some.first) c.in-Some.ensures.block c.take.new.self c.in-Some.ensures.taken c.record.new.self c.record.ensures,
)

pub returns-in-None : goal.returns-in-None
returns-in-None g c =
    (none_free c.self.inside.ledger c.self.inside.monitor c.self.invariant c.args.self.now c.self.view_is c.args.build c.args.order c.requires.there c.in-None.ensures.none, c.self.view_is)

use Rattle.realm_host.proofs.Acted.{there, ready, outcome_is, whole_refused, can_be_recorded, whole_done, act_recorded}
use Rattle.realm_host.proofs.host.Host.act.Goals as goal

pub place-place-requires : goal.place-place-requires
place-place-requires g c = there c.self.inside.ledger c.self.inside.monitor c.self.invariant c.args.self.now c.self.view_is c.args.build c.args.act c.requires

pub perform-requires : goal.perform-requires
perform-requires g c = ready c.self.inside.ledger c.self.inside.monitor c.self.invariant c.args.self.now c.self.view_is c.args.build c.args.act c.requires c.place-place.result c.place-place.ensures

pub invariant_of-self : goal.invariant_of-self
invariant_of-self g c =
    whole_refused c.self.inside.ledger c.self.inside.monitor c.self.invariant c.args.self.now c.self.view_is c.args.build c.args.act c.requires
    c.place-place.result c.place-place.ensures c.perform.new.monitor c.perform.ensures.machine c.in-Err.rmi c.in-Err.ensures.answer

pub returns-in-Err : goal.returns-in-Err
returns-in-Err g c = (
  outcome_is c.self.inside.ledger c.self.inside.monitor c.self.invariant c.args.self.now c.self.view_is c.args.build c.args.act c.requires
      c.place-place.result c.place-place.ensures c.perform.new.monitor c.perform.ensures.machine c.in-Err.rmi c.in-Err.ensures.answer,
  c.self.view_is,
)

pub record-requires-clause-there : goal.record-requires-clause-there
record-requires-clause-there g c = there c.self.inside.ledger c.self.inside.monitor c.self.invariant c.args.self.now c.self.view_is c.args.build c.args.act c.requires

pub record-requires-clause-can : goal.record-requires-clause-can
record-requires-clause-can g c =
    can_be_recorded c.self.inside.ledger c.self.inside.monitor c.self.invariant c.args.self.now c.self.view_is c.args.build c.args.act c.requires
    c.place-place.result c.place-place.ensures c.perform.new.monitor c.perform.ensures.machine c.in_default.ensures.answer

pub invariant_of-self-2 : goal.invariant_of-self-2
invariant_of-self-2 g c =
    whole_done c.self.inside.ledger c.self.inside.monitor c.self.invariant c.args.self.now c.self.view_is c.args.build c.args.act c.requires c.place-place.result
    c.place-place.ensures c.perform.new.monitor c.perform.ensures.machine c.in_default.ensures.answer c.record.new.self c.record.ensures

pub returns : goal.returns
returns g c = act_recorded c.self.inside.ledger c.self.inside.monitor c.self.invariant c.args.self.now c.self.view_is c.args.build c.args.act c.requires
    c.place-place.result c.place-place.ensures c.perform.new.monitor c.perform.ensures.machine c.in_default.ensures.answer c.record.new.self c.record.ensures

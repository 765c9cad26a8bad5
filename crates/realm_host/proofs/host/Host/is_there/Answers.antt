use Rattle.std.proofs.Common.{nat_eq, false, Some, None, ap, ◌∙◌}
use Rattle.realm_host.proofs.There.{peeked_taken, no_step, no_read, byte_said, none_said, number_said, fits_else}
use Rattle.realm_host.proofs.host.Host.is_there.Goals as goal

pub host_peek-requires : goal.host_peek-requires
host_peek-requires g c =
    peeked_taken c.self.inside.ledger c.self.inside.monitor c.self.invariant c.args.self.now c.self.view_is c.args.build c.args.act.now c.in-Peek.granule
    c.in-Peek.offset c.in-Peek.byte c.in-Peek.is c.requires.leased

pub returns-in-Ok-clause-no_step : goal.returns-in-Ok-clause-no_step
returns-in-Ok-clause-no_step g c =
    no_step c.args.self.now c.args.build c.args.act.now _
    (byte_said c.self.inside.ledger c.self.inside.monitor c.self.invariant c.args.self.now c.self.view_is c.args.build c.args.act.now c.in-Peek.granule
    c.in-Peek.offset c.in-Peek.byte c.in-Ok.found c.in-Peek.is c.in-Ok.ensures.byte)

pub returns-in-Err-clause-no_step : goal.returns-in-Err-clause-no_step
returns-in-Err-clause-no_step g c =
    no_read c.self.inside.ledger c.self.inside.monitor c.self.invariant c.args.self.now c.self.view_is c.args.build c.args.act.now c.in-Peek.granule
    c.in-Peek.offset c.in-Peek.byte c.in-Err.field-0 c.in-Peek.is c.in-Err.ensures.answer

pub returns-in-Realm-clause-no_step : goal.returns-in-Realm-clause-no_step
returns-in-Realm-clause-no_step g c =
    no_step c.args.self.now c.args.build c.args.act.now c.is_none.result
    (none_said c.self.inside.ledger c.self.inside.monitor c.self.invariant c.args.self.now c.self.view_is c.args.build c.args.act.now c.in-Realm.rd
    c.in-Realm.root c.in-Realm.vmid c.realm.result c.is_none.result c.in-Realm.is c.realm.ensures.value c.is_none.ensures)

pub returns-in-Some-clause-no_step : goal.returns-in-Some-clause-no_step
returns-in-Some-clause-no_step g c =
    no_step c.args.self.now c.args.build c.args.act.now c.eq.result
    (c.eq.ensures ∙ ap (nat_eq c.in-Rec.number) c.next_number.ensures
    ∙ number_said c.args.self.now c.args.build c.args.act.now c.in-Rec.granule c.in-Rec.auxiliaries c.in-Rec.number c.in-Rec.is (Some c.in-Some.realm.now) c.in-Some.ensures)

pub returns-in-None-clause-no_step : goal.returns-in-None-clause-no_step
returns-in-None-clause-no_step g c =
    no_step c.args.self.now c.args.build c.args.act.now false
    (number_said c.args.self.now c.args.build c.args.act.now c.in-Rec.granule c.in-Rec.auxiliaries c.in-Rec.number c.in-Rec.is None c.in-None.ensures)

pub returns-in_default : goal.returns-in_default
returns-in_default g c = record {
  fits = fits_else c.args.act.now c.requires.forward c.requires.command c.in_default.not-Peek c.in_default.not-Realm
      (λ granule auxiliaries number. c.in_default.not-Rec granule auxiliaries number) _ _;
  no_step = search;
}

use Rattle.std.proofs.Common.{refl, sym, subst}
use Rattle.realm_model.specs.declared.act.Act.{Act}
use Rattle.realm_host.specs.Acting.{IsActed, IsApplied, CanAct}
use Rattle.realm_host.proofs.Applied.{no_legal, unleased_no_step, can_apply_act, is_applied}
use Rattle.realm_host.proofs.host.Host.apply_forward.Goals as goal

pub returns-then-not-leases_named : goal.returns-then-not-leases_named
returns-then-not-leases_named g c = (
  no_legal c.args.self.now c.requires.legal c.args.build c.args.act.now
      (unleased_no_step c.args.self.now c.args.build c.args.act.now c.requires.command (sym c.if-not-leases_named.ensures)),
  refl,
)

pub returns-then-not-is_there : goal.returns-then-not-is_there
returns-then-not-is_there g c = (
  no_legal c.args.self.now c.requires.legal c.args.build c.args.act.now c.if-not-is_there.ensures.no_step,
  refl,
)

pub act-requires : goal.act-requires
act-requires g c = subst (CanAct c.args.self.now c.args.build) (sym c.clone.ensures)
    (can_apply_act c.args.self.now c.args.build c.args.act.now c.requires.there c.requires.forward c.requires.command c.requires.room
    (sym c.if-not-leases_named.ensures) c.check_ranges.ensures c.if-not-is_there.ensures.fits)

pub returns : goal.returns
returns g c = subst (λ t. IsApplied c.args.self.now c.args.build c.args.act.now t c.act.new.self) (sym c.is_ok.ensures.value)
    (is_applied c.args.self.now c.requires.legal c.args.build c.args.act.now c.act.result c.act.new.self
    (subst (λ (a : Act). IsActed c.args.self.now c.args.build a c.act.result c.act.new.self) c.clone.ensures c.act.ensures))

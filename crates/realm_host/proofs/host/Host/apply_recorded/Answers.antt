use Rattle.std.proofs.Common.{refl, sym, ap, ◌∙◌, subst}
use Rattle.std.specs.Prelude.{nat_lt}
use Rattle.std.proofs.lemmas.Bool.{lt-ltb}
use Rattle.realm_model.specs.History.{IsLegal}
use Rattle.realm_model.specs.declared.act.Act.{Act}
use Rattle.host_ledger.specs.View.{HostView}
use Rattle.realm_host.specs.Acting.{HasRoomFor}
use Rattle.realm_host.proofs.Applied.{there_next, forward_command}
use Rattle.realm_host.proofs.There.{build_there}
use Rattle.realm_host.proofs.host.Host.apply_recorded.Goals as goal

pub returns-then-not-has_build-clause-answer : goal.returns-then-not-has_build-clause-answer
returns-then-not-has_build-clause-answer g c = (
  λ bad. cc,
  λ can.
      let there = there_next c.args.self.now (subst (λ (h : HostView). IsLegal h.limits h.history) c.self.view_is c.self.invariant.mirror.legal)
      c.args.event.now.build c.args.event.now.act can.legal in
      c.if-not-has_build.ensures.there ∙ ap (λ (h : HostView). nat_lt c.args.event.now.build h.limits.builds) c.self.view_is ∙ lt-ltb c.args.event.now.build c.args.self.now.limits.builds there,
)

pub has_room_for-requires : goal.has_room_for-requires
has_room_for-requires g c = build_there _ c.args.self.now c.args.event.now.build c.self.view_is c.if-not-has_build.ensures.there

pub apply_take-requires : goal.apply_take-requires
apply_take-requires g c = record {
  there = build_there _ c.args.self.now c.args.event.now.build c.self.view_is c.if-not-has_build.ensures.there;
  room = subst (λ (act : Act). HasRoomFor c.args.self.now c.args.event.now.build act) c.in-Take.is (c.if-not-has_room_for.ensures.0 refl);
}

pub apply_reverse-requires : goal.apply_reverse-requires
apply_reverse-requires g c = record {
  there = build_there _ c.args.self.now c.args.event.now.build c.self.view_is c.if-not-has_build.ensures.there;
  kind = sym c.if-is_reverse.ensures;
}

pub apply_forward-requires : goal.apply_forward-requires
apply_forward-requires g c = record {
  legal = subst (λ (h : HostView). IsLegal h.limits h.history) c.self.view_is c.self.invariant.mirror.legal;
  there = build_there _ c.args.self.now c.args.event.now.build c.self.view_is c.if-not-has_build.ensures.there;
  forward = sym c.if-is_reverse.ensures;
  command = forward_command c.args.event.now.act (sym c.if-is_reverse.ensures) c.in_default.not-Take;
  room = c.if-not-has_room_for.ensures.0 refl;
}

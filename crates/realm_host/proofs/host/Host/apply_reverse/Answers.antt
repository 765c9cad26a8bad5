use Rattle.std.proofs.Common.{◌≡◌, true, false, Some, None, refl, sym, ap, ◌∙◌, subst}
use Rattle.std.specs.Prelude.{option_and_then}
use Rattle.std.specs.List.{last_or}
use Rattle.realm_model.specs.Act.{reverse_of}
use Rattle.realm_model.specs.History.{IsLegal}
use Rattle.host_ledger.specs.View.{HostView, open_of}
use Rattle.realm_host.proofs.Applied.{legal_next, out_of_turn, runs_on}
use Rattle.realm_host.proofs.host.Host.apply_reverse.Goals as goal

pub returns-in_default : goal.returns-in_default
returns-in_default g c = (
  λ more.
      let none : None ≡ last_or None (open_of c.args.self.now c.args.build) =
      c.in_default.ensures.value ∙ ap (λ (h : HostView). last_or None (open_of h c.args.build)) c.self.view_is in
      out_of_turn c.args.self.now (subst (λ (h : HostView). IsLegal h.limits h.history) c.self.view_is c.self.invariant.mirror.legal) c.args.build c.args.act.now c.requires.kind
      (λ turn. let bad : None ≡ Some c.args.act.now = ap (option_and_then reverse_of) none ∙ turn in cc) more,
  refl,
)

pub returns-then-not-takes_back : goal.returns-then-not-takes_back
returns-then-not-takes_back g c = (
  λ more.
      let newest : Some c.in-Some.newest.now ≡ last_or None (open_of c.args.self.now c.args.build) =
      c.in-Some.ensures.value ∙ ap (λ (h : HostView). last_or None (open_of h c.args.build)) c.self.view_is in
      out_of_turn c.args.self.now (subst (λ (h : HostView). IsLegal h.limits h.history) c.self.view_is c.self.invariant.mirror.legal) c.args.build c.args.act.now c.requires.kind
      (λ turn. let bad : false ≡ true = sym c.if-not-takes_back.true ∙ c.takes_back.ensures.1 (ap (option_and_then reverse_of) newest ∙ turn) in cc) more,
  refl,
)

pub returns-then-is_running : goal.returns-then-is_running
returns-then-is_running g c = (
  λ more.
      let next = legal_next c.args.self.now (subst (λ (h : HostView). IsLegal h.limits h.history) c.self.view_is c.self.invariant.mirror.legal) c.args.build c.args.act.now more in
      runs_on c.args.self.now c.args.build c.in-Some.newest.now c.args.act.now (c.takes_back.ensures.0 c.if-not-takes_back.false) (sym c.if-is_running.ensures) next.next next.stepped,
  refl,
)

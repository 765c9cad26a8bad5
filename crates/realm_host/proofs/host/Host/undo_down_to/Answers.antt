use Rattle.std.proofs.Common.{◌≡◌, length, refl, sym, ap, ◌∙◌, subst, arith}
use Rattle.realm_model.specs.History.{IsLegal}
use Rattle.host_ledger.specs.Marks.{mark_while}
use Rattle.host_ledger.specs.View.{HostView, open_of, is_aborting, mark_of}
use Rattle.realm_host.proofs.Aborts.{never_refused, goes_down, is_down}
use Rattle.realm_host.proofs.host.Host.undo_down_to.Goals as goal

pub loop-init : goal.loop-init
loop-init g c = record {
  there = c.requires.there;
  legal = subst (λ (h : HostView). IsLegal h.limits h.history) c.self.view_is c.self.invariant.mirror.legal;
  end = refl;
  opened = refl;
  rests = c.requires.rest;
  low = subst (λ (h : HostView). mark_while (length (open_of h c.args.build)) (mark_of h c.args.build) ≡ mark_of h c.args.build) c.self.view_is
      (ap (λ n. mark_while n (mark_of c.self.inside.ledger c.args.build)) (sym c.open_count-end.ensures.value) ∙ c.open_count-end.ensures.low);
  idle = λ none.
      ap (λ (h : HostView). is_aborting h c.args.build) (sym c.self.view_is)
      ∙ c.open_count-end.ensures.idle (c.open_count-end.ensures.value ∙ ap (λ (h : HostView). length (open_of h c.args.build)) c.self.view_is ∙ none);
}

pub unreachable-requires : goal.unreachable-requires
unreachable-requires g c =
    let end = c.open_count-end.ensures.value in
    let same = ap (λ (h : HostView). length (open_of h c.args.build)) c.self.view_is in
    let under = c.loop-test.true in
    never_refused c.args.self.now c.loop.self c.loop.self c.args.build c.args.count c.loop.counter c.loop.invariant (omega (arith, end, same, under))
    c.in_default.field-0 c.in_default.ensures.answer.0

pub loop-preserved : goal.loop-preserved
loop-preserved g c =
    let end = c.open_count-end.ensures.value in
    let same = ap (λ (h : HostView). length (open_of h c.args.build)) c.self.view_is in
    let under = c.loop-test.true in
    goes_down c.args.self.now c.loop.self c.undo.new.self c.args.build c.args.count c.loop.counter c.loop.invariant (omega (arith, end, same, under))
    c.in-Ok.field-0 c.in-Ok.ensures.answer

pub returns : goal.returns
returns g c =
    let end = c.open_count-end.ensures.value in
    let same = ap (λ (h : HostView). length (open_of h c.args.build)) c.self.view_is in
    let over = c.loop-test.false in
    let most = c.loop.auto.counter-end in
    let enough = c.requires.enough in
    is_down c.args.self.now c.loop.self c.args.build c.args.count c.loop.counter c.loop.invariant enough (omega (arith, end, same, over, most, enough))

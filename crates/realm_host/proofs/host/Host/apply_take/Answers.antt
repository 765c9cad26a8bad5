use Rattle.std.proofs.Common.{◌++◌, ◌∷◌, [], false, refl, sym, subst, arith}
use Rattle.std.specs.Prelude.{IsTrue}
use Rattle.realm_model.specs.declared.act.Act.TheVariants.{Take}
use Rattle.realm_model.specs.History.{IsLegal}
use Rattle.realm_model.specs.Undoing.{by}
use Rattle.host_ledger.specs.View.{HostView}
use Rattle.realm_host.proofs.Applied.{legal_block}
use Rattle.realm_host.proofs.Blocked.{can_take, whole_taken, take_recorded}
use Rattle.realm_host.proofs.host.Host.apply_take.Goals as goal

no : IsTrue false → ⊥
no h = cc

pub returns-then-not-take_at : goal.returns-then-not-take_at
returns-then-not-take_at g c = (
  λ more. no (c.if-not-take_at.ensures.answer.1 (legal_block c.self.inside.ledger c.self.inside.monitor c.self.invariant c.args.build c.args.order c.args.first
      (subst (λ (h : HostView). IsLegal h.limits (h.history ++ by c.args.build (Take c.args.order c.args.first) ∷ [])) (sym c.self.view_is) more))),
  c.self.view_is,
)

pub record-requires-clause-can : goal.record-requires-clause-can
record-requires-clause-can g c =
    can_take c.self.inside.ledger c.self.inside.monitor c.self.invariant c.args.self.now c.self.view_is c.args.build c.args.order c.requires.there
    (let small = c.number.ensures.at_most in let same = c.number.ensures.value in omega (arith, small, same)) c.args.first c.requires.room
    (c.if-not-take_at.ensures.answer.0 refl) c.take_at.new.self c.if-not-take_at.ensures.taken

pub invariant_of-self-2 : goal.invariant_of-self-2
invariant_of-self-2 g c =
    whole_taken c.self.inside.ledger c.self.inside.monitor c.self.invariant c.args.self.now c.self.view_is c.args.build c.args.order c.requires.there
    (let small = c.number.ensures.at_most in let same = c.number.ensures.value in omega (arith, small, same)) c.args.first c.requires.room
    (c.if-not-take_at.ensures.answer.0 refl) c.take_at.new.self c.if-not-take_at.ensures.taken c.record.new.self c.record.ensures

pub returns : goal.returns
returns g c =
    take_recorded c.self.inside.ledger c.self.inside.monitor c.self.invariant c.args.self.now c.self.view_is c.args.build c.args.order c.requires.there
    (let small = c.number.ensures.at_most in let same = c.number.ensures.value in omega (arith, small, same)) c.args.first c.requires.room
    (c.if-not-take_at.ensures.answer.0 refl) c.take_at.new.self c.if-not-take_at.ensures.taken c.record.new.self c.record.ensures

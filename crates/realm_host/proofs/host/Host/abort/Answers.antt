use Rattle.std.proofs.Common.{◌≡◌, true, length, None, cond, Some, sym, ap, ◌∙◌, subst, arith}
use Rattle.std.specs.Prelude.{nat_lt}
use Rattle.std.proofs.lemmas.Bool.{ltb-true, lt-leb, le-ltb}
use Rattle.realm_model.specs.Running.{running_count}
use Rattle.realm_model.specs.World.{realm_of}
use Rattle.realm_model.specs.History.{IsLegal}
use Rattle.host_commands.specs.declared.refusal.Refusal.TheVariants.{NoBuild, RecRunning}
use Rattle.host_ledger.specs.View.{HostView, world_of, open_of}
use Rattle.realm_host.proofs.Aborts.{rests_all}
use Rattle.realm_host.proofs.Calls.{aborted, nothing_left}
use Rattle.realm_host.proofs.host.Host.abort.Goals as goal

pub undo_down_to-requires-clause-rest : goal.undo_down_to-requires-clause-rest
undo_down_to-requires-clause-rest g c =
    let runs = c.running.ensures ∙ ap (λ (h : HostView). running_count (realm_of c.args.build (world_of h))) c.self.view_is in
    let zero = c.if-running-gt0.false in
    rests_all c.args.self.now (subst (λ (h : HostView). IsLegal h.limits h.history) c.self.view_is c.self.invariant.mirror.legal) c.args.build (omega (arith, runs, zero))
    (open_of c.args.self.now c.args.build)

pub returns-clause-answer : goal.returns-clause-answer
returns-clause-answer g c =
    let runs = c.running.ensures ∙ ap (λ (h : HostView). running_count (realm_of c.args.build (world_of h))) c.self.view_is in
    let zero = c.if-running-gt0.false in
    let there = ltb-true c.args.build c.args.self.now.limits.builds (subst (λ (h : HostView). nat_lt c.args.build h.limits.builds ≡ true) c.self.view_is (sym c.if-not-has_build.ensures.there)) in (
      (λ i. cond (lt-leb c.args.self.now.limits.builds c.args.build there i) (Some NoBuild)
          (cond (le-ltb 0 (running_count (realm_of c.args.build (world_of c.args.self.now))) (omega (arith, runs, zero)) i) (Some RecRunning) None)),
      aborted c.args.self.now c.args.build c.open_count-count.result
          (c.open_count-count.ensures.value ∙ ap (λ (h : HostView). length (open_of h c.args.build)) c.self.view_is)
          c.undo_down_to.new.self c.undo_down_to.ensures,
    )

pub returns-clause-nothing_left : goal.returns-clause-nothing_left
returns-clause-nothing_left g c = nothing_left c.args.self.now c.args.build c.undo_down_to.new.self c.undo_down_to.ensures

use Rattle.std.proofs.Common.{sym, subst, string_bytes}
use Rattle.std.specs.Prelude.{IfOk, IfErr}
use Rattle.host_ledger.specs.View.{HostView}
use Rattle.realm_plan.specs.PlanView.{plan_view}
use Rattle.realm_program.specs.Workers.{IsWorkersText, IsWithoutWorkersText}
use Rattle.realm_program.proofs.working.run_with.Goals as goal

pub returns-clause-ok : goal.returns-clause-ok
returns-clause-ok g c =
    subst (λ (o : HostView). IfOk c.run_shared.result (λ text. IsWorkersText (plan_view c.args.plan.now) (g.G.Gate.passes c.args.gate.now) (g.G.Gate.stops c.args.gate.now) o (string_bytes text)))
    (sym c.requires.opened) c.run_shared.ensures.ok

pub returns-clause-err : goal.returns-clause-err
returns-clause-err g c =
    subst (λ (o : HostView). IfErr c.run_shared.result (IsWithoutWorkersText (plan_view c.args.plan.now) (g.G.Gate.passes c.args.gate.now) (g.G.Gate.stops c.args.gate.now) o))
    (sym c.requires.opened) c.run_shared.ensures.err

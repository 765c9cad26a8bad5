use Rattle.std.proofs.Common.{string_bytes, subst, sym, List, ℕ}
use Rattle.host_ledger.specs.View.{HostView}
use Rattle.plan_replay.specs.Run.{IsReportedRun}
use Rattle.realm_plan.specs.PlanView.{plan_view}
use Rattle.realm_program.specs.Replay.{opening_host, RunLeadsTo}
use Rattle.realm_program.proofs.text.ledger_of.Goals as goal

pub returns : goal.returns
returns c =
    let plan = plan_view c.args.plan.now in
    let lines = string_bytes c.run_plan.new.lines in
    subst (λ (last : HostView). RunLeadsTo plan last) (sym c.into_ledger.ensures) (record {
      lines = lines;
      run = subst (λ (old : List ℕ). IsReportedRun plan (opening_host plan) c.in_ok-host.host old lines) c.in_ok-lines.ensures c.in_ok-host.ensures;
    })

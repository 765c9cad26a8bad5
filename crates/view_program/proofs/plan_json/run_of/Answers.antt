use Rattle.std.proofs.Common.{sym, subst}
use Rattle.host_ledger.specs.View.{HostView}
use Rattle.realm_plan.specs.PlanView.{plan_view}
use Rattle.run_json.specs.Document.{IsDocument}
use Rattle.realm_program.specs.Replay.{opening_host}
use Rattle.view_program.proofs.plan_json.run_of.Goals as goal

pub returns : goal.returns
returns c =
    let plan = plan_view c.args.plan.now in
    let document = c.in_ok-document.document in
    subst (λ (ledger : HostView). IsDocument plan (opening_host plan) ledger document) (sym c.into_ledger.ensures)
    (subst (λ host. IsDocument plan host c.run_document.new.host document) c.in_ok-host.ensures c.in_ok-document.ensures)

use Rattle.std.proofs.Common.{Some, ap, refl, subst}
use Rattle.realm_plan.specs.Outcome.{Fails}
use Rattle.realm_plan.specs.Plan.{plan_of}
use Rattle.realm_plan.specs.declared.fault.PlanError.{PlanError}
use Rattle.realm_plan.specs.PlanView.{plan_view}
use Rattle.plan_lint.proofs.Moved.{judged_plan, judged_fault}
use Rattle.plan_lint.proofs.judging.judge.Goals as goal

pub returns-in_ok-findings-in-Ok : goal.returns-in_ok-findings-in-Ok
returns-in_ok-findings-in-Ok c =
    judged_plan c.args.bytes.now c.in_ok-warnings_of-in-Ok.field-0.items _ c.in_ok-warnings_of-in-Ok.ensures.inside
    c.in_ok-findings-in-Ok.ensures.moved c.in_ok-findings-in-Ok.ensures.sorted
    (plan_view c.in-Ok.plan) c.in-Ok.ensures.value c.in_ok-warnings_of-in-Ok.ensures.warnings (ap Some c.size_of.ensures)

pub returns-in_ok-findings-in-Err-Fault : goal.returns-in_ok-findings-in-Err-Fault
returns-in_ok-findings-in-Err-Fault c =
    judged_fault c.args.bytes.now c.in_ok-errors_of-in-Err-Fault.field-0.items _ c.in_ok-errors_of-in-Err-Fault.ensures.inside
    c.in_ok-findings-in-Err-Fault.ensures.moved c.in_ok-findings-in-Err-Fault.ensures.sorted
    c.in-Err-Fault.fault (subst (λ (e : PlanError). Fails e (plan_of c.args.bytes.now)) c.in-Err-Fault.field-0-is c.in-Err-Fault.ensures.value) c.in_ok-errors_of-in-Err-Fault.ensures.errors refl

use Rattle.std.proofs.Common.{◌≡◌, ap, refl, subst}
use Rattle.std.specs.Prelude.{is_ok}
use Rattle.realm_plan.specs.Outcome.{Fails}
use Rattle.realm_plan.specs.Plan.{plan_of}
use Rattle.view_program.proofs.printing.plan_from.Goals as goal

pub returns-in_ok-report-in-Err-Fault-clause-err : goal.returns-in_ok-report-in-Err-Fault-clause-err
returns-in_ok-report-in-Err-Fault-clause-err c = record {
  report = c.in_ok-report-in-Err-Fault.report;
  is_report = c.in_ok-report-in-Err-Fault.ensures;
  text = refl;
  no_plan = ap is_ok (subst (λ e. Fails e (plan_of c.args.bytes.now)) c.in-Err-Fault.field-0-is c.in-Err-Fault.ensures.value);
}

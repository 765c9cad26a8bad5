use Rattle.std.proofs.Common.{List, length, subst}
use Rattle.std.specs.Prelude.{Any}
use Rattle.plan_lint.specs.declared.finding.Finding.{Finding}
use Rattle.plan_lint.specs.Findings.{IsErrorOf}
use Rattle.plan_lint.proofs.Moved.{errors_pushed, inside_pushed}
use Rattle.plan_lint.proofs.judging.errors_of.Goals as goal

pub returns-then-tells-clause-errors : goal.returns-then-tells-clause-errors
returns-then-tells-clause-errors c = record {
  errors = c.in_ok-errors.ensures.errors;
  told = subst (λ (fs : List Finding). Any (λ (f : Finding). IsErrorOf c.args.fault f.severity) fs) c.deref.ensures.value (c.tells.ensures c.if-tells.true);
}

pub returns-clause-errors : goal.returns-clause-errors
returns-clause-errors c = errors_pushed c.args.fault _ _ _ c.in_ok-push.ensures.items c.in_ok-errors.ensures.errors c.in_ok-general_finding.ensures.severity

pub returns-clause-inside : goal.returns-clause-inside
returns-clause-inside c =
    inside_pushed (length c.args.bytes.now) _ _ _ c.in_ok-push.ensures.items c.in_ok-errors.ensures.inside
    (c.in_ok-general_finding.ensures.inside (length c.args.bytes.now))

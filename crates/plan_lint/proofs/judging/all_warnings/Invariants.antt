use Rattle.plan_lint.specs.Findings.{AreWarnings, AreInside}
use Rattle.plan_lint.proofs.judging.all_warnings.Given as goal

abbrev pub invariant-loop-finding : goal.invariant-loop-finding
invariant-loop-finding l = record {
  warnings : AreWarnings l.warnings.items;
  inside : AreInside l.end l.warnings.items;
}

use Rattle.std.specs.Prelude.{All}
use Rattle.plan_lint.specs.Findings.{IsError, AreInside}
use Rattle.plan_lint.proofs.judging.all_errors.Given as goal

abbrev pub invariant-loop-finding : goal.invariant-loop-finding
invariant-loop-finding l = record {
  errors : All (λ f. IsError f.severity) l.errors.items;
  inside : AreInside l.end l.errors.items;
}

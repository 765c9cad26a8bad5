use Rattle.std.proofs.Common.{◌≡◌, ◌≤◌, ◌*◌, take, length, map}
use Rattle.std.specs.Prelude.{sum_by}
use Rattle.plan_lint.proofs.judging.steps_in.Given as goal

abbrev pub invariant-loop-steps : goal.invariant-loop-steps
invariant-loop-steps l = record {
  sum : l.count ≡ sum_by length (map (λ b. b.items) (take l.steps-index l.builds));
  few : l.count ≤ 1024 * l.steps-index;
}

use Rattle.std.proofs.Common.{◌≡◌, ◌≤◌, ◌*◌, length}
use Rattle.rmm_answers.specs.Guest.{results}
use Rattle.rmm_answers.proofs.guest.put_results.Given as goal

abbrev pub invariant-loop-k : goal.invariant-loop-k
invariant-loop-k g l = record {
  so_far : l.answer.items ≡ results l.rmm l.rec l.k;
  few : length l.answer.items ≤ 2 * l.k;
}

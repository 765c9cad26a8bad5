use Rattle.std.proofs.Common.{◌≡◌, ◌*◌, ◌≤◌, take}
use Rattle.std.specs.Prelude.{sum}
use Rattle.plan_states.proofs.question.all_held.Given as goal

abbrev pub invariant-loop-pages : goal.invariant-loop-pages
invariant-loop-pages l = record {
  so_far : l.all ≡ sum (take l.pages-index l.held);
  small : l.all ≤ 65535 * l.pages-index;
}

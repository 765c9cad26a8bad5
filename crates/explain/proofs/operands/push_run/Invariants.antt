use Rattle.std.proofs.Common.{◌≡◌, ◌++◌, ◌+◌, length}
use Rattle.std.specs.List.{range_with_len}
use Rattle.explain.proofs.operands.push_run.Given as goal

abbrev pub invariant-loop-number : goal.invariant-loop-number
invariant-loop-number l = record {
  items : l.pages.items ≡ l.fn.pages.items ++ range_with_len l.first l.number;
  long : length l.pages.items ≡ length l.fn.pages.items + l.number;
}

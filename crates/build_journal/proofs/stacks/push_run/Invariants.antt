use Rattle.std.proofs.Common.{◌≡◌, ◌++◌, ◌+◌, ◌≤◌, take, vec_len, vec_capacity}
use Rattle.std.specs.List.{range_with_len}
use Rattle.build_journal.proofs.stacks.push_run.Given as goal

abbrev pub invariant-loop-k : goal.invariant-loop-k
invariant-loop-k l = record {
  pushed : take (l.start + l.k) l.stack.items ≡ l.fn.stack.items ++ range_with_len l.number l.k;
  long : vec_len l.stack ≡ l.start + l.k-end;
  memory : vec_capacity l.fn.stack ≤ vec_capacity l.stack;
}

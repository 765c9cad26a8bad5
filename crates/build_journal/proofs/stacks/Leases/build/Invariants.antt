use Rattle.std.proofs.Common.{◌≡◌, [], replicate, All}
use Rattle.build_journal.specs.Stacks.{contents, IsRoomy}
use Rattle.build_journal.proofs.stacks.Leases.build.Given as goal

abbrev pub invariant-loop-i : goal.invariant-loop-i
invariant-loop-i l = record {
  empty : contents l.stacks.items ≡ replicate l._i [];
  roomy : All (IsRoomy l.pages) l.stacks.items;
}

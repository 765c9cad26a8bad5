use Rattle.std.proofs.Common.{◌≡◌, ◌+◌, ◌-◌, ◌≤◌}
use Rattle.std.specs.Bool.{OnFalse}
use Rattle.buddy.specs.InHand.{HasChecked}
use Rattle.buddy.proofs.blocks.cut_out.Given as goal

abbrev pub invariant-loop-rest : goal.invariant-loop-rest
invariant-loop-rest g l = record {
  checked : HasChecked l.lists.heads g.flags l.first l.rest l.found;
  unchanged : OnFalse l.found (l.lists ≡ l.fn.lists);
  from : l.order ≤ l.rest;
  upto : l.rest ≤ l.top + 1;
  turns : l.turns + l.rest ≡ l.top + 1;
}

abbrev pub decreases-loop-rest : goal.decreases-loop-rest
decreases-loop-rest g l = l.rest - l.order

abbrev pub ghost-check_order : goal.ghost-check_order
ghost-check_order g a = g.flags

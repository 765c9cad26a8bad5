use Rattle.std.proofs.Common.{◌≡◌, ◌+◌, ◌-◌, ◌≤◌}
use Rattle.page_arena.specs.Block.{with_given}
use Rattle.buddy.specs.MaximalBlock.{LiesWithin}
use Rattle.buddy.specs.InHand.{InHand}
use Rattle.buddy.proofs.blocks.give_to.Given as goal

abbrev pub invariant-loop-other : goal.invariant-loop-other
invariant-loop-other g l = record {
  hand : InHand l.lists.heads (with_given g.flags l.order l.first) l.rest l.start;
  within : LiesWithin l.order l.first l.rest l.start;
  low : l.rest ≤ 9;
  turns : l.turns + l.order ≡ l.rest + 1;
}

abbrev pub decreases-loop-other : goal.decreases-loop-other
decreases-loop-other g l = 9 - l.rest

use Rattle.buddy.specs.Heads.{held}
use Rattle.buddy.proofs.index.FreeIndex.take_at.Given as goal

abbrev pub ghost-cut_out : goal.ghost-cut_out
ghost-cut_out a = held a.lists.now.heads

use Rattle.buddy.specs.Heads.{held}
use Rattle.buddy.proofs.index.FreeIndex.give.Given as goal

abbrev pub ghost-give_to : goal.ghost-give_to
ghost-give_to a = held a.lists.now.heads

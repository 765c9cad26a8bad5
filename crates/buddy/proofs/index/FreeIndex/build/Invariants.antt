use Rattle.buddy.specs.Heads.{held}
use Rattle.buddy.proofs.Tally.{IsGivenFrom}
use Rattle.buddy.proofs.index.FreeIndex.build.Given as goal

abbrev pub invariant-loop-granule : goal.invariant-loop-granule
invariant-loop-granule l = IsGivenFrom l.granules l.granule l.lists.heads

abbrev pub decreases-loop-granule : goal.decreases-loop-granule
decreases-loop-granule l = l.granule

abbrev pub ghost-give_to : goal.ghost-give_to
ghost-give_to a = held a.lists.now.heads

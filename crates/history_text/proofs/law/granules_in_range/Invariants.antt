use Rattle.std.proofs.Common.{replicate, take}
use Rattle.decimal_text.specs.Ranges.{AreAtMost}
use Rattle.history_text.specs.Written.{granule}
use Rattle.history_text.proofs.law.granules_in_range.Given as goal

abbrev pub invariant-loop-granule : goal.invariant-loop-granule
invariant-loop-granule l = AreAtMost (take l.granule-index l.granules) (replicate l.granule-index granule)

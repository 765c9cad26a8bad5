use Rattle.std.proofs.Common.{◌∙◌}
use Rattle.checked_io.proofs.Written.{wrote_more}
use Rattle.checked_io.proofs.told.Told.write_whole.Goals as goal

pub loop-rest-preserved : goal.loop-rest-preserved
loop-rest-preserved g c = record {
  fine = c.in-Ok.ensures.told;
  uncounted = c.in-Ok.ensures.counted ∙ c.loop-rest.invariant.uncounted;
  wrote = rw c.split_at.ensures.back (wrote_more _ _ _ _ _ _ c.loop-rest.invariant.wrote c.in-Ok.ensures.bytes);
}

use Rattle.std.proofs.Common.{◌≡◌, map, take}
use Rattle.history_calls.specs.Frame as frames
use Rattle.rhm_c.proofs.history.addresses.Given as goal

abbrev pub invariant-loop-granule : goal.invariant-loop-granule
invariant-loop-granule l = l.addresses.items ≡ map (frames.address l.fn.frame) (take l.granule-index l.granules.items)

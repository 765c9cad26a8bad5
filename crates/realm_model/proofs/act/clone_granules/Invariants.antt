use Rattle.std.proofs.Common.{◌≡◌, take}
use Rattle.realm_model.proofs.act.clone_granules.Given as goal

abbrev pub invariant-loop-granule : goal.invariant-loop-granule
invariant-loop-granule l = l.clone.items ≡ take l.granule-index l.granules.items

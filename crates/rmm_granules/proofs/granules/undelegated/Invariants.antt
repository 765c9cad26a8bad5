use Rattle.std.proofs.Common.{◌≡◌, replicate}
use Rattle.rmm_model.specs.declared.granule.RmmGranuleState.TheVariants.{Undelegated}
use Rattle.rmm_model.specs.Granule.{of_no_realm}
use Rattle.rmm_granules.proofs.granules.undelegated.Given as goal

abbrev pub invariant-loop-i : goal.invariant-loop-i
invariant-loop-i l = l.granules.items ≡ replicate l._i (of_no_realm Undelegated)

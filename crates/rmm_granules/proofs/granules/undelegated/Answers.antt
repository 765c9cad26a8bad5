use Rattle.std.proofs.Common.{◌++◌, ◌∷◌, [], List, replicate, ap, ◌∙◌}
use Rattle.std.proofs.lemmas.List.{replicate_more}
use Rattle.rmm_model.specs.declared.granule.RmmGranule.{RmmGranule}
use Rattle.rmm_model.specs.declared.granule.RmmGranuleState.TheVariants.{Undelegated}
use Rattle.rmm_model.specs.Granule.{of_no_realm}
use Rattle.rmm_granules.proofs.granules.undelegated.Goals as goal

pub loop-i-preserved : goal.loop-i-preserved
loop-i-preserved c =
    c.in_ok-push.ensures.items
    ∙ ap (λ (kept : List RmmGranule). kept ++ c.undelegated.result ∷ []) c.loop-i.invariant
    ∙ ap (λ (kept : RmmGranule). replicate c.loop-i._i (of_no_realm Undelegated) ++ kept ∷ []) c.undelegated.ensures
    ∙ replicate_more c.loop-i._i (of_no_realm Undelegated)

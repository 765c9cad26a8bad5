-- A proof that a DELEGATED granule and an UNDELEGATED granule are never the same granule.
use Rattle.std.proofs.Common.{◌≡◌, ◌≢◌, ℕ, true, ap, sym, ◌∙◌}
use Rattle.rmm_model.specs.declared.granule.RmmGranuleState.{RmmGranuleState}
use Rattle.rmm_model.specs.declared.granule.RmmGranuleState.TheVariants.{Undelegated}
use Rattle.rmm_model.specs.Granule.{is_undelegated, is_delegated}
use Rattle.rmm_model.specs.Machine.{Machine, granule_at}

one_state : (state : RmmGranuleState) → is_undelegated state ≡ true → is_delegated state ≡ true → ⊥
one_state Undelegated host mine = cc
one_state _ host mine = cc

-- a DELEGATED granule and an UNDELEGATED one are different granules
pub delegated_apart : (m : Machine) (mine host : ℕ) → is_delegated (granule_at m mine).state ≡ true → is_undelegated (granule_at m host).state ≡ true → mine ≢ host
delegated_apart m mine host is_mine is_host = λ same.
    one_state (granule_at m host).state is_host (ap (λ (g : ℕ). is_delegated (granule_at m g).state) (sym same) ∙ is_mine)

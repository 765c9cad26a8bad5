-- A proof that, in the model, a granule outside the machine is UNDELEGATED and belongs to no realm.
use Rattle.std.proofs.Common.{◌≡◌, ℕ, ◌≤◌}
use Rattle.std.proofs.lemmas.List.{get_or_past}
use Rattle.rmm_model.specs.declared.granule.RmmGranuleState.TheVariants.{Undelegated}
use Rattle.rmm_model.specs.Granule.{of_no_realm}
use Rattle.rmm_model.specs.Machine.{Machine, granule_count, granule_at}

-- a granule outside the machine is UNDELEGATED and has no owner
pub outside : (m : Machine) (granule : ℕ) → granule_count m ≤ granule → granule_at m granule ≡ of_no_realm Undelegated
outside m granule past = get_or_past m.granules granule (of_no_realm Undelegated) past

-- The state and the realm of each granule of a machine. RMM 1.0, Granule attributes.
use Rattle.std.specs.Prelude.{◌≡◌, ℕ, ◌<◌, List, length, slice_index_or, Option, None}
use Rattle.realm_model.specs.declared.states.GranuleState.{GranuleState}
use Rattle.realm_model.specs.declared.states.GranuleState.TheVariants.{Undelegated}
use Rattle.rtt.specs.declared.granule.Granule.{Granule}

-- an UNDELEGATED granule of no realm
abbrev pub undelegated : Granule
undelegated = record { state = Undelegated; realm = None }

-- the granule with a number; a granule outside the machine counts as UNDELEGATED and of no realm
abbrev pub granule_at : List Granule → ℕ → Granule
granule_at granules granule = slice_index_or granules granule undelegated

-- the granule is inside the machine, has the given state, and belongs to the given realm, or to no realm if `realm` is
-- `None`
pub record IsIn (granules : List Granule) (granule : ℕ) (state : GranuleState) (realm : Option ℕ) : Type 0 where
  pub inside : granule < length granules
  pub is : granule_at granules granule ≡ record { state = state; realm = realm }

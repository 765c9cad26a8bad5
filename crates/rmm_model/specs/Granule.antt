-- The states and the owners of granules. RMM 1.0, Granule attributes.
use Rattle.std.specs.Prelude.{ℕ, Bool, true, false, Option, Some, None}
use Rattle.rmm_model.specs.declared.granule.RmmGranule.{RmmGranule}
use Rattle.rmm_model.specs.declared.granule.RmmGranuleState.{RmmGranuleState}
use Rattle.rmm_model.specs.declared.granule.RmmGranuleState.TheVariants.{Undelegated, Delegated, Rd, Rec as IsRec}
use Rattle.rmm_model.specs.declared.realm.RmmRealm.{RmmRealm}
use Rattle.rmm_model.specs.declared.rec.RmmRec.{RmmRec}

abbrev pub is_undelegated : RmmGranuleState → Bool
is_undelegated Undelegated = true
is_undelegated _ = false

abbrev pub is_delegated : RmmGranuleState → Bool
is_delegated Delegated = true
is_delegated _ = false

-- the realm that a granule describes, if the granule is an RD
abbrev pub realm_of : RmmGranuleState → Option RmmRealm
realm_of (Rd realm) = Some realm
realm_of _ = None

-- the attributes of the REC that a granule holds, if the granule is a REC
abbrev pub rec_of : RmmGranuleState → Option RmmRec
rec_of (IsRec rec) = Some rec
rec_of _ = None

-- a granule in a state, owned by no realm
abbrev pub of_no_realm : RmmGranuleState → RmmGranule
of_no_realm state = record { state = state; owner = None }

-- a granule in a state, owned by the realm with the given RD
abbrev pub of_realm : ℕ → RmmGranuleState → RmmGranule
of_realm rd state = record { state = state; owner = Some rd }

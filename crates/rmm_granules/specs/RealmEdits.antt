-- The attributes of a realm, and the machine, after an edit of the realm.
use Rattle.std.specs.Prelude.{ℕ, ◌-◌, Option, Some, None}
use Rattle.rmm_model.specs.declared.granule.RmmGranule.{RmmGranule}
use Rattle.rmm_model.specs.declared.granule.RmmGranuleState.TheVariants.{Rd}
use Rattle.rmm_model.specs.declared.realm.RmmRealm.{RmmRealm}
use Rattle.rmm_model.specs.declared.realm.RmmRealmState.TheVariants.{SystemOff}
use Rattle.rmm_model.specs.Granule.{of_no_realm}
use Rattle.rmm_model.specs.Machine.{Machine, with_realm}
use Rattle.rmm_granules.specs.declared.realm_edit.RealmEdit.{RealmEdit}
use Rattle.rmm_granules.specs.declared.realm_edit.RealmEdit.TheVariants.{SwitchOff, RemoveRec}

-- the attributes of a realm after an edit
abbrev pub edited_realm : RealmEdit → RmmRealm → RmmRealm
edited_realm SwitchOff realm = record realm { state = SystemOff }
edited_realm RemoveRec realm = record realm { rec_count = realm.rec_count - 1 }

-- a granule after an edit of the realm whose RD it is; unchanged if it is not an RD
abbrev pub edited_rd : RealmEdit → RmmGranule → Option RmmRealm → RmmGranule
edited_rd edit kept (Some realm) = of_no_realm (Rd (edited_realm edit realm))
edited_rd edit kept None = kept

-- the machine after an edit of the realm whose RD is granule `rd`; unchanged if `rd` is not an RD
abbrev pub with_edited_realm : Machine → ℕ → RealmEdit → Option RmmRealm → Machine
with_edited_realm m rd edit (Some realm) = with_realm m rd (edited_realm edit realm)
with_edited_realm m rd edit None = m

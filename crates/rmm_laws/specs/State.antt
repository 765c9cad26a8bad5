-- The states and RIMs of realms, and the calls that change them. RMM 1.0, Realm lifecycle, Realm Initial Measurement.
use Rattle.std.specs.Prelude.{◌≡◌, ℕ, ◌<◌, ◌⊎◌, true, false, List, [], length, Option, Some}
use Rattle.rmi_abi.specs.declared.call.Call.{Call}
use Rattle.rmi_abi.specs.declared.call.Call.TheVariants.{DataCreate, RealmCreate, RealmActivate, RealmDestroy, RecCreate, RecEnter, RttInitRipas}
use Rattle.rmm_model.specs.declared.granule.RmmGranuleState.TheVariants.{Rd}
use Rattle.rmm_model.specs.declared.realm.RmmRealm.{RmmRealm}
use Rattle.rmm_model.specs.declared.realm.RmmRealmState.{RmmRealmState}
use Rattle.rmm_model.specs.declared.realm.RmmRealmState.TheVariants.{New, Active, SystemOff}
use Rattle.rmm_model.specs.Granule.{of_no_realm}
use Rattle.rmm_model.specs.Level.{entry_size}
use Rattle.rmm_model.specs.Machine.{Machine, granule_at, page_in, number_of, is_vmid_used}
use Rattle.rmm_model.specs.Walk.{walk}
use Rattle.rmm_model.specs.Command.DataCreate.{rim_with_data}
use Rattle.rmm_model.specs.Command.Operand.{realm_at}
use Rattle.rmm_model.specs.Command.RealmCreate.{params_at, hash_of, realm_for}
use Rattle.rmm_model.specs.Command.RecMeasurement.{rim_with_rec}
use Rattle.rmm_model.specs.Command.RipasRange.{change_count}
use Rattle.rmm_model.specs.Command.RttInitRipas.{rim_with_ripas, init_changeable}
use Rattle.rmm_laws.specs.Owner.{is_rd}

-- a granule is the RD of a realm in the given state
abbrev pub IsRealmIn : Machine → ℕ → RmmRealmState → Type 0
IsRealmIn m rd state = (realm : RmmRealm) × ((granule_at m rd).state ≡ Rd realm) × (realm.state ≡ state)

-- A NEW realm has what the parameters of its creation ask for: hash algorithm, width, starting tables and VMID. It has
-- no RECs. Its VMID is used, if the machine has a flag for it.
abbrev pub IsRealmMadeOf : Machine → Machine → ℕ → ℕ → Type 0
IsRealmMadeOf m n rd params =
    let p = params_at m params in
    (realm : RmmRealm) × (granule_at n (number_of m rd) ≡ of_no_realm (Rd realm)) × (realm.state ≡ New) × (realm.hash ≡ hash_of p.hash_algo) × (realm.s2sz ≡ p.s2sz)
    × (realm.start_level ≡ p.rtt_level_start) × (realm.first_table ≡ number_of m p.rtt_base) × (realm.table_count ≡ p.rtt_num_start) × (realm.vmid ≡ p.vmid)
    × (realm.next_rec ≡ 0) × (realm.rec_count ≡ 0) × (p.vmid < length m.vmids → is_vmid_used n p.vmid ≡ true)

-- A call can bring a realm to a state: it creates a NEW realm, activates a NEW one, or enters a REC of an ACTIVE one.
-- The last can make the realm SYSTEM_OFF.
abbrev pub IsBrought : Machine → Option Call → ℕ → RmmRealmState → Type 0
IsBrought m (Some (RealmCreate of params)) rd New = (rd ≡ number_of m of) × (is_rd (granule_at m rd).state ≡ false)
IsBrought m (Some (RealmActivate of)) rd Active = (rd ≡ number_of m of) × IsRealmIn m rd New
IsBrought m (Some (RecEnter rec run)) rd SystemOff = ((granule_at m (number_of m rec)).owner ≡ Some rd) × IsRealmIn m rd Active
IsBrought m call rd state = ⊥

-- the attributes that a realm keeps from its creation on: all but its state, its RIM and its two counts of RECs
abbrev pub fixed : RmmRealm → RmmRealm
fixed realm = record realm { state = New; rim = []; next_rec = 0; rec_count = 0 }

-- a granule is the RD of a realm with the same fixed attributes as the given realm
abbrev pub IsLasting : Machine → ℕ → RmmRealm → Type 0
IsLasting m rd realm = (other : RmmRealm) × ((granule_at m rd).state ≡ Rd other) × (fixed other ≡ fixed realm)

-- a call is RMI_REALM_DESTROY of the realm with the given RD
abbrev pub IsDestroyed : Machine → Option Call → ℕ → Type 0
IsDestroyed m (Some (RealmDestroy of)) rd = rd ≡ number_of m of
IsDestroyed m call rd = ⊥

-- Each realm that exists before a call still exists after it with the same fixed attributes, or the call destroys the
-- realm.
abbrev pub KeepsRealms : Machine → Option Call → Machine → Type 0
KeepsRealms m call n = (rd : ℕ) (realm : RmmRealm) → (granule_at m rd).state ≡ Rd realm → IsLasting n rd realm ⊎ IsDestroyed m call rd

-- a granule is the RD of a realm with the given RIM
abbrev pub HasRim : Machine → ℕ → List ℕ → Type 0
HasRim m rd rim = (realm : RmmRealm) × ((granule_at m rd).state ≡ Rd realm) × (realm.rim ≡ rim)

-- After a call, each realm's state is the one that it had before, or one to which the call can bring it.
abbrev pub KeepsStates : Machine → Option Call → Machine → Type 0
KeepsStates m call n = (rd : ℕ) (realm : RmmRealm) → (granule_at n rd).state ≡ Rd realm → IsRealmIn m rd realm.state ⊎ IsBrought m call rd realm.state

-- a realm's RIM after RMI_RTT_INIT_RIPAS of a range, extended for each entry that the command sets to RAM
abbrev pub rim_with_range : Machine → RmmRealm → ℕ → ℕ → List ℕ
rim_with_range m realm base top =
    let found = walk m realm base 3 in
    rim_with_ripas realm.hash realm.rim (entry_size found.level) base (change_count m (init_changeable m.settings) found base top)

-- A call may change the RIM of the realm with the given RD to the given value. RMI_REALM_CREATE sets the RIM.
-- RMI_DATA_CREATE, RMI_RTT_INIT_RIPAS, and RMI_REC_CREATE of a REC that is measured, extend the RIM of a NEW realm.
abbrev pub IsMeasured : Machine → Option Call → ℕ → List ℕ → Type 0
IsMeasured m (Some (RealmCreate of params)) rd rim = (rd ≡ number_of m of) × (is_rd (granule_at m rd).state ≡ false) × (rim ≡ (realm_for m (params_at m params)).rim)
IsMeasured m (Some (DataCreate of page ipa source flags)) rd rim =
    (rd ≡ number_of m of) × IsRealmIn m rd New × (rim ≡ rim_with_data (realm_at m of) ipa flags (page_in m (number_of m source)))
IsMeasured m (Some (RttInitRipas of base top)) rd rim =
    (rd ≡ number_of m of) × IsRealmIn m rd New × (rim ≡ rim_with_range m (realm_at m of) base top)
IsMeasured m (Some (RecCreate of rec params)) rd rim = (rd ≡ number_of m of) × IsRealmIn m rd New × (rim ≡ rim_with_rec m.settings (realm_at m of) (page_in m (number_of m params)))
IsMeasured m call rd rim = ⊥

-- a call is RMI_REALM_CREATE, RMI_DATA_CREATE, RMI_RTT_INIT_RIPAS or RMI_REC_CREATE of the given realm; these can set
-- or extend its RIM
abbrev pub Measures : Machine → Call → ℕ → Type 0
Measures m (RealmCreate of params) rd = rd ≡ number_of m of
Measures m (DataCreate of page ipa source flags) rd = rd ≡ number_of m of
Measures m (RttInitRipas of base top) rd = rd ≡ number_of m of
Measures m (RecCreate of rec params) rd = rd ≡ number_of m of
Measures m call rd = ⊥

-- After a call, each realm's RIM is the one that it had before, or one that the call gave it.
abbrev pub KeepsRims : Machine → Option Call → Machine → Type 0
KeepsRims m call n = (rd : ℕ) (realm : RmmRealm) → (granule_at n rd).state ≡ Rd realm → HasRim m rd realm.rim ⊎ IsMeasured m call rd realm.rim

-- The realm that a call names, the granules of other realms, and the host pages that a call may change. RMM 1.0, RMI
-- commands.
use Rattle.std.specs.Prelude.{◌≡◌, ◌≢◌, ℕ, ◌+◌, ◌*◌, ◌⊎◌, ◌&&◌, Bool, true, false, Option, Some, None, is_some, if◌then◌else◌}
use Rattle.granule_addr.specs.Page.{zero_page}
use Rattle.rmi_abi.specs.declared.call.Call.{Call}
use Rattle.rmi_abi.specs.declared.call.Call.TheVariants.{GranuleDelegate, RealmActivate, RealmCreate, RealmDestroy, RecAuxCount, RecCreate, RecDestroy, RecEnter, PsciComplete, DataCreate, DataCreateUnknown, DataDestroy}
use Rattle.rmi_abi.specs.declared.call.Call.TheVariants.{RttCreate, RttDestroy, RttFold, RttReadEntry, RttMapUnprotected, RttUnmapUnprotected, RttInitRipas, RttSetRipas}
use Rattle.rmm_model.specs.declared.granule.RmmGranuleState.TheVariants.{Undelegated, Delegated}
use Rattle.rmm_model.specs.Granule.{of_no_realm, realm_of}
use Rattle.rmm_model.specs.Guest.{rec_in, is_rec_named}
use Rattle.rmm_model.specs.Machine.{Machine, granule_at, page_in, is_aligned, is_inside, is_secure, number_of, state_at}
use Rattle.rmm_model.specs.Command.Operand.{realm_at}
use Rattle.rmm_model.specs.Command.RealmCreate.{params_at}
use Rattle.rmm_laws.specs.Role.{IsBegin}

-- the RD at an address, if one begins there
abbrev pub rd_named : Machine → ℕ → Option ℕ
rd_named m address = if is_aligned address && is_inside m address && is_some (realm_of (state_at m address)) then Some (number_of m address) else None

-- the RD that owns the REC at an address, if a REC begins there
abbrev pub realm_of_rec : Machine → ℕ → Option ℕ
realm_of_rec m address = if is_rec_named m address then (granule_at m (number_of m address)).owner else None

-- The RD of the existing realm that a call names, directly or through a REC. A call that creates a realm names none.
abbrev pub named_realm : Machine → Call → Option ℕ
named_realm m (RealmActivate rd) = rd_named m rd
named_realm m (RealmDestroy rd) = rd_named m rd
named_realm m (RecAuxCount rd) = rd_named m rd
named_realm m (RecCreate rd rec params) = rd_named m rd
named_realm m (RecDestroy rec) = realm_of_rec m rec
named_realm m (RecEnter rec run) = realm_of_rec m rec
named_realm m (PsciComplete calling target status) = realm_of_rec m calling
named_realm m (RttCreate rd rtt ipa level) = rd_named m rd
named_realm m (RttDestroy rd ipa level) = rd_named m rd
named_realm m (RttFold rd ipa level) = rd_named m rd
named_realm m (RttReadEntry rd ipa level) = rd_named m rd
named_realm m (RttMapUnprotected rd ipa level descriptor) = rd_named m rd
named_realm m (RttUnmapUnprotected rd ipa level) = rd_named m rd
named_realm m (RttInitRipas rd base top) = rd_named m rd
named_realm m (RttSetRipas rd rec base top) = rd_named m rd
named_realm m (DataCreate rd page ipa source flags) = rd_named m rd
named_realm m (DataCreateUnknown rd page ipa) = rd_named m rd
named_realm m (DataDestroy rd ipa) = rd_named m rd
named_realm m _ = None

-- a call is RMI_REALM_CREATE or RMI_REALM_DESTROY, which takes a VMID into use or frees one if it succeeds
abbrev pub changes_vmids : Option Call → Bool
changes_vmids (Some (RealmCreate rd params)) = true
changes_vmids (Some (RealmDestroy rd)) = true
changes_vmids call = false

-- a VMID is not the VMID of a realm that the call creates or destroys
abbrev pub IsOtherVmid : Machine → Option Call → ℕ → Type 0
IsOtherVmid m (Some (RealmCreate rd params)) vmid = vmid ≢ (params_at m params).vmid
IsOtherVmid m (Some (RealmDestroy rd)) vmid = vmid ≢ (realm_at m rd).vmid
IsOtherVmid m call vmid = Unit {0}

-- a granule is the RD of the given realm, or is owned by that realm
abbrev pub IsOfRealm : Machine → Option ℕ → ℕ → Type 0
IsOfRealm m (Some rd) g = (g ≡ rd) ⊎ ((granule_at m g).owner ≡ Some rd)
IsOfRealm m None g = ⊥

-- a granule is UNDELEGATED or DELEGATED, so it belongs to no realm
abbrev pub IsSpare : Machine → ℕ → Type 0
IsSpare m g = ((granule_at m g).state ≡ Undelegated) ⊎ ((granule_at m g).state ≡ Delegated)

-- a granule has the same attributes and the same contents in both machines
abbrev pub IsSameAt : Machine → Machine → ℕ → Type 0
IsSameAt m n g = (granule_at n g ≡ granule_at m g) × (page_in n g ≡ page_in m g)

-- both machines have the same settings and the same VMIDs in use
abbrev pub KeepsSettings : Machine → Machine → Type 0
KeepsSettings m n = (n.settings ≡ m.settings) × (n.vmids ≡ m.vmids)

-- a granule is outside the secure world
abbrev pub IsNormal : Machine → ℕ → Type 0
IsNormal m g = is_secure m (m.settings.base + g * 4096) ≡ false

-- an UNDELEGATED granule outside the secure world begins at the address
abbrev pub IsHostPage : Machine → ℕ → Type 0
IsHostPage m address = IsBegin m address × (state_at m address ≡ Undelegated) × IsNormal m (number_of m address)

-- The input page of a call is a page of the host, outside the secure world. It is the source of DATA_CREATE, or the
-- parameters of REALM_CREATE or REC_CREATE. Other calls are not restricted.
abbrev pub IsFromHost : Machine → Call → Type 0
IsFromHost m (DataCreate rd page ipa source flags) = IsHostPage m source
IsFromHost m (RealmCreate rd params) = IsHostPage m params
IsFromHost m (RecCreate rd rec params) = IsHostPage m params
IsFromHost m call = Unit {0}

-- A call may change the given granule, a host page outside the secure world, by delegating the granule or by entering a
-- REC. RMI_GRANULE_DELEGATE delegates the granule, which begins at the call's address and is DELEGATED and zero
-- afterwards. In RMI_REC_ENTER the guest and the exit write host pages, and the granule keeps its attributes.
abbrev pub IsHostChanged : Machine → Machine → Option Call → ℕ → Type 0
IsHostChanged m n (Some (GranuleDelegate address)) g =
    IsBegin m address × (g ≡ number_of m address) × IsNormal m g × (granule_at n g ≡ of_no_realm Delegated) × (page_in n g ≡ zero_page)
IsHostChanged m n (Some (RecEnter rec run)) g = IsNormal m g × (granule_at n g ≡ granule_at m g)
IsHostChanged m n call g = ⊥

-- A granule is the run page of the REC at the given address, and is outside the secure world. An interrupt may change
-- the page, and the granule keeps its attributes.
abbrev pub IsRunPage : Machine → Machine → ℕ → ℕ → Type 0
IsRunPage m n rec g = (g ≡ number_of m (rec_in m (number_of m rec)).run) × IsNormal m g × (granule_at n g ≡ granule_at m g)

-- if there is a call, the granule belongs to a realm other than the realm that the call names
abbrev pub IsOfAnother : Machine → Option Call → ℕ → Type 0
IsOfAnother m (Some call) g = (IsOfRealm m (named_realm m call) g → ⊥) × (IsSpare m g → ⊥)
IsOfAnother m None g = Unit {0}

-- The memory locations and the bytes that a realm's addresses lead to, and the calls that change them. RMM 1.0, RTT
-- entry.
use Rattle.std.specs.Prelude.{◌≡◌, ℕ, ◌+◌, ◌*◌, ◌/◌, ◌%◌, ◌⊎◌, true, List, Option, Some, None}
use Rattle.granule_addr.specs.Page.{zero_page}
use Rattle.rmi_abi.specs.declared.call.Call.{Call}
use Rattle.rmi_abi.specs.declared.call.Call.TheVariants.{DataCreate, DataCreateUnknown, DataDestroy, RecEnter}
use Rattle.rmm_model.specs.declared.entry.RmmRttEntry.{RmmRttEntry}
use Rattle.rmm_model.specs.declared.entry.RmmRttEntry.TheVariants.{Assigned, AssignedNs}
use Rattle.rmm_model.specs.declared.entry.RmmRipas.{RmmRipas}
use Rattle.rmm_model.specs.declared.granule.RmmGranuleState.TheVariants.{Rd}
use Rattle.rmm_model.specs.declared.realm.RmmRealm.{RmmRealm}
use Rattle.rmm_model.specs.declared.realm.RmmRealmState.TheVariants.{New}
use Rattle.rmm_model.specs.Level.{entry_size}
use Rattle.rmm_model.specs.Machine.{Machine, granule_at, page_in, number_of}
use Rattle.rmm_model.specs.Realm.{is_protected}
use Rattle.rmm_model.specs.Walk.{entry_at, walk}
use Rattle.rmm_laws.specs.Ripas.{ripas_at, IsBetween}
use Rattle.rmm_laws.specs.State.{IsRealmIn}

-- A location of memory, given by an address and the attributes with which the address is mapped. Memory of a realm has
-- no attributes.
pub record Location : Type 0 where
  pub address : ℕ
  pub attributes : ℕ

abbrev pub location : ℕ → ℕ → Option Location
location address attributes = Some (record { address = address; attributes = attributes })

-- the location at an offset into the memory that an entry maps, if it maps any
abbrev pub location_of : RmmRttEntry → ℕ → Option Location
location_of (Assigned ripas desc) offset = location (desc / 4096 * 4096 + offset) (desc % 4096)
location_of (AssignedNs desc) offset = location (desc / 4096 * 4096 + offset) (desc % 4096)
location_of _ offset = None

-- the location that an address of a realm leads to, if the entry at which its walk ends maps memory
abbrev pub location_at : Machine → RmmRealm → ℕ → Option Location
location_at m realm ipa = let found = walk m realm ipa 3 in location_of (entry_at m found ipa) (ipa % entry_size found.level)

-- A call may change the location of an IPA in the given realm from one given value to another. DATA_CREATE of a NEW
-- realm and DATA_CREATE_UNKNOWN map a page where there was none. DATA_DESTROY leaves none.
abbrev pub IsLocationGiven : Machine → Option Call → ℕ → ℕ → Option Location → Option Location → Type 0
IsLocationGiven m (Some (DataCreate of page at source flags)) rd ipa old new =
    (rd ≡ number_of m of) × IsRealmIn m rd New × IsBetween at (at + 4096) ipa × (old ≡ None) × (new ≡ location (page + ipa % 4096) 0)
IsLocationGiven m (Some (DataCreateUnknown of page at)) rd ipa old new =
    (rd ≡ number_of m of) × IsBetween at (at + 4096) ipa × (old ≡ None) × (new ≡ location (page + ipa % 4096) 0)
IsLocationGiven m (Some (DataDestroy of at)) rd ipa old new = (rd ≡ number_of m of) × IsBetween at (at + 4096) ipa × (new ≡ None)
IsLocationGiven m call rd ipa old new = ⊥

-- In a realm that exists before and after a call, each protected IPA keeps its location, or has one to which the call
-- may change it.
abbrev pub KeepsLocations : Machine → Option Call → Machine → Type 0
KeepsLocations m call n =
    (rd ipa : ℕ) (before after : RmmRealm) → (granule_at m rd).state ≡ Rd before → (granule_at n rd).state ≡ Rd after → is_protected before ipa ≡ true
    → (location_at n after ipa ≡ location_at m before ipa) ⊎ IsLocationGiven m call rd ipa (location_at m before ipa) (location_at n after ipa)

-- each address of an IPA granule is mapped to its offset in the given page of memory, and has the given RIPAS
abbrev pub IsPageAt : Machine → RmmRealm → ℕ → ℕ → RmmRipas → Type 0
IsPageAt m realm at page ripas = (ipa : ℕ) → IsBetween at (at + 4096) ipa → (location_at m realm ipa ≡ location (page + ipa % 4096) 0) × (ripas_at m realm ipa ≡ ripas)

-- ---- bytes

-- the bytes of the page that contains the location, if there is a location
abbrev pub content_of : Machine → Option Location → Option (List ℕ)
content_of m (Some place) = Some (page_in m (number_of m place.address))
content_of m None = None

-- the bytes of the page that an address of a realm leads to, if it leads to one
abbrev pub content_at : Machine → RmmRealm → ℕ → Option (List ℕ)
content_at m realm ipa = content_of m (location_at m realm ipa)

-- A call may change the bytes at an IPA of the given realm from one given value to another. DATA_CREATE of a NEW realm
-- gives those of the host's page, and DATA_CREATE_UNKNOWN gives zeros, where there were none. DATA_DESTROY leaves none.
-- When a REC of the realm is entered, its guest may write any bytes.
abbrev pub IsContentGiven : Machine → Option Call → ℕ → ℕ → Option (List ℕ) → Option (List ℕ) → Type 0
IsContentGiven m (Some (DataCreate of page at source flags)) rd ipa old new =
    (rd ≡ number_of m of) × IsRealmIn m rd New × IsBetween at (at + 4096) ipa × (old ≡ None) × (new ≡ Some (page_in m (number_of m source)))
IsContentGiven m (Some (DataCreateUnknown of page at)) rd ipa old new = (rd ≡ number_of m of) × IsBetween at (at + 4096) ipa × (old ≡ None) × (new ≡ Some zero_page)
IsContentGiven m (Some (DataDestroy of at)) rd ipa old new = (rd ≡ number_of m of) × IsBetween at (at + 4096) ipa × (new ≡ None)
IsContentGiven m (Some (RecEnter rec run)) rd ipa old new = (granule_at m (number_of m rec)).owner ≡ Some rd
IsContentGiven m call rd ipa old new = ⊥

-- In a realm that exists before and after a call, each protected IPA leads to the same bytes as before, unless the call
-- may change them.
abbrev pub KeepsContents : Machine → Option Call → Machine → Type 0
KeepsContents m call n =
    (rd ipa : ℕ) (before after : RmmRealm) → (granule_at m rd).state ≡ Rd before → (granule_at n rd).state ≡ Rd after → is_protected before ipa ≡ true
    → (content_at n after ipa ≡ content_at m before ipa) ⊎ IsContentGiven m call rd ipa (content_at m before ipa) (content_at n after ipa)

-- The machine that the modelled RMM manages: settings, granules with their contents, and VMIDs.
use Rattle.std.specs.Prelude.{ℕ, ◌-◌, ◌/◌, ◌%◌, ◌==◌, ◌&&◌, Bool, false, nat_le, nat_lt, List, length, slice_index_or, slice_set, IfSome}
use Rattle.granule_addr.specs.Page.{zero_page}
use Rattle.page_arena.specs.Page.{page_at}
use Rattle.page_arena.specs.Word.{page_with_word}
use Rattle.rmi_abi.specs.declared.settings.RmmSettings.{RmmSettings}
use Rattle.rmm_model.specs.declared.granule.RmmGranule.{RmmGranule}
use Rattle.rmm_model.specs.declared.granule.RmmGranuleState.{RmmGranuleState}
use Rattle.rmm_model.specs.declared.granule.RmmGranuleState.TheVariants.{Undelegated, Rd}
use Rattle.rmm_model.specs.declared.realm.RmmRealm.{RmmRealm}
use Rattle.rmm_model.specs.Granule.{of_no_realm, realm_of}
use Rattle.rmm_model.specs.Realm.{IsServed}

-- The machine that the RMM manages: the RMM's settings, the attributes and contents of the granules, and the VMIDs that
-- realms use.
pub record Machine : Type 0 where
  pub settings : RmmSettings
  pub granules : List RmmGranule
  pub vmids : List Bool
  pub pages : List (List ℕ)

-- ---- granules by number

-- the number of granules of a machine
abbrev pub granule_count : Machine → ℕ
granule_count m = length m.granules

-- the granule with the given number; one outside the machine counts as UNDELEGATED
abbrev pub granule_at : Machine → ℕ → RmmGranule
granule_at m granule = slice_index_or m.granules granule (of_no_realm Undelegated)

-- the bytes of a granule
abbrev pub page_in : Machine → ℕ → List ℕ
page_in m granule = page_at m.pages granule

abbrev pub with_granule : Machine → ℕ → RmmGranule → Machine
with_granule m granule kept = record m { granules = slice_set m.granules granule kept }

abbrev pub with_page : Machine → ℕ → List ℕ → Machine
with_page m granule page = record m { pages = slice_set m.pages granule page }

abbrev pub with_word : Machine → ℕ → ℕ → ℕ → Machine
with_word m granule i word = with_page m granule (page_with_word (page_in m granule) i word)

-- the machine after a granule gets a given state and no owner, and is filled with zeros
abbrev pub with_blank : Machine → ℕ → RmmGranuleState → Machine
with_blank m granule state = with_page (with_granule m granule (of_no_realm state)) granule zero_page

-- ---- granules by address

-- the address is a multiple of 4 KiB, the size of a granule
abbrev pub is_aligned : ℕ → Bool
is_aligned address = address % 4096 == 0

-- the address is in a granule of the machine
unfoldable pub is_inside : Machine → ℕ → Bool
is_inside m address = nat_le m.settings.base address && nat_lt ((address - m.settings.base) / 4096) (length m.granules)

-- the number of the granule that contains an address
unfoldable pub number_of : Machine → ℕ → ℕ
number_of m address = (address - m.settings.base) / 4096

-- the state of the granule that contains an address
abbrev pub state_at : Machine → ℕ → RmmGranuleState
state_at m address = (granule_at m (number_of m address)).state

-- the memory at an address belongs to the secure world
unfoldable pub is_secure : Machine → ℕ → Bool
is_secure m address = nat_le m.settings.secure_base address && nat_lt ((address - m.settings.secure_base) / 4096) m.settings.secure_count

-- ---- realms

-- the machine after the attributes of the realm with the given RD are replaced
abbrev pub with_realm : Machine → ℕ → RmmRealm → Machine
with_realm m rd realm = with_granule m rd (of_no_realm (Rd realm))

-- each realm's starting tables are in the machine and cover the realm's address space
pub record HasTables (granules : List RmmGranule) : Type 0 where
  pub each : (granule : ℕ) → IfSome (realm_of (slice_index_or granules granule (of_no_realm Undelegated)).state) (IsServed (length granules))

-- some realm has the given VMID
abbrev pub is_vmid_used : Machine → ℕ → Bool
is_vmid_used m vmid = slice_index_or m.vmids vmid false

abbrev pub with_vmid : Machine → ℕ → Bool → Machine
with_vmid m vmid used = record m { vmids = slice_set m.vmids vmid used }

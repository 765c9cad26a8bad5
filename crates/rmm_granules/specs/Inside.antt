-- The machine that the fields of a `Granules` value represent, and the invariant of these fields.
use Rattle.std.specs.Prelude.{◌≡◌, ℕ, ◌<◌, ◌≤◌, Bool, false, List, length, replicate}
use Rattle.page_arena.specs.Page.{is_free}
use Rattle.rmi_abi.specs.declared.settings.RmmSettings.{RmmSettings}
use Rattle.rmm_model.specs.declared.granule.RmmGranule.{RmmGranule}
use Rattle.rmm_model.specs.declared.granule.RmmGranuleState.TheVariants.{Undelegated}
use Rattle.rmm_model.specs.Granule.{of_no_realm}
use Rattle.rmm_model.specs.Machine.{Machine, HasTables}

abbrev pub machine_of : RmmSettings → List RmmGranule → List Bool → List (List ℕ) → Machine
machine_of settings granules vmids pages = record { settings = settings; granules = granules; vmids = vmids; pages = pages }

-- the empty set of 16-bit VMIDs, as a list of flags, one for each VMID
unfoldable pub no_vmids : List Bool
no_vmids = replicate 65536 false

-- the machine of a platform with all granules UNDELEGATED and with no realm
abbrev pub platform_machine : RmmSettings → List (List ℕ) → Machine
platform_machine settings pages = machine_of settings (replicate (length pages) (of_no_realm Undelegated)) no_vmids pages

-- For each granule a page of the page store is taken, and each realm's starting tables are in the machine. There are at
-- most 4,096 granules, and a flag for each 16-bit VMID.
pub record IsWhole (settings : RmmSettings) (granules : List RmmGranule) (vmids : List Bool) (pages : List (List ℕ)) (free : List Bool) : Type 0 where
  pub as_many : length granules ≡ length pages
  pub few : length granules ≤ 4096
  pub taken : (page : ℕ) → page < length pages → is_free free page ≡ false
  pub tables : HasTables granules
  pub each_vmid : length vmids ≡ 65536

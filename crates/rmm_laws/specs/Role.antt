-- The role of each granule: how the granule is used, and by which granule. RMM 1.0, Granule attributes, RTT entry, REC
-- attribute aux.
use Rattle.std.specs.Prelude.{◌≡◌, ◌≢◌, ℕ, ◌+◌, ◌*◌, ◌/◌, ◌<◌, ◌≤◌, ◌⊎◌, ◌==◌, ◌&&◌, Bool, true, false, nat_lt, List, length, Option, Some, None, option_map, if◌then◌else◌}
use Rattle.rmi_abi.specs.Settings.{IsPlatform}
use Rattle.rmm_model.specs.declared.entry.RmmRttEntry.{RmmRttEntry}
use Rattle.rmm_model.specs.declared.entry.RmmRttEntry.TheVariants.{Assigned, Table}
use Rattle.rmm_model.specs.declared.granule.RmmGranule.{RmmGranule}
use Rattle.rmm_model.specs.declared.granule.RmmGranuleState.{RmmGranuleState}
use Rattle.rmm_model.specs.declared.granule.RmmGranuleState.TheVariants.{Rd, Rec as IsRec, RecAux, Data, Rtt}
use Rattle.rmm_model.specs.Level.{entry_size}
use Rattle.rmm_model.specs.Machine.{Machine, HasTables, granule_at, page_in, is_inside, number_of}
use Rattle.rmm_model.specs.Rec.{aux_of}
use Rattle.rmm_model.specs.Table.{entry_in_page}
use Rattle.rmm_model.specs.Walk.{granule_named}

-- ---- granules in use

-- The number and the attributes of a granule that is used, and its level if it is a table.
pub record Used : Type 0 where
  pub number : ℕ
  pub attributes : RmmGranule
  pub level : ℕ

abbrev pub used : RmmGranuleState → Option ℕ → ℕ → ℕ → Used
used state owner level number = record { number = number; attributes = record { state = state; owner = owner }; level = level }

-- a granule in the given state has to be used by another granule
abbrev pub has_user : RmmGranuleState → Bool
has_user Rtt = true
has_user Data = true
has_user RecAux = true
has_user _ = false

abbrev pub level_in : RmmGranuleState → ℕ → ℕ
level_in Rtt level = level
level_in _ level = 0

-- a granule of a machine, with its number, its attributes and, if it is a table, the level that `level` gives for it
abbrev pub used_at : Machine → (ℕ → ℕ) → ℕ → Used
used_at m level g = record { number = g; attributes = granule_at m g; level = level_in (granule_at m g).state (level g) }

-- ---- uses

-- the number of pages that an entry of a level covers
abbrev pub page_count : ℕ → ℕ
page_count level = entry_size level / 4096

-- part `part` of what a table entry uses: the table below a TABLE entry if `part` is 0, or the page at index `part` of
-- an ASSIGNED entry's memory
abbrev pub entry_uses : Machine → Option ℕ → ℕ → RmmRttEntry → ℕ → Option Used
entry_uses m owner level (Table address) part = if part == 0 then option_map (used Rtt owner (level + 1)) (granule_named m address) else None
entry_uses m owner level (Assigned ripas address) part =
    if nat_lt part (page_count level) then option_map (λ first. used Data owner 0 (first + part)) (granule_named m address) else None
entry_uses m owner level _ part = None

-- what a granule in the given state uses at an index: what a table's entry uses, a REC's auxiliary granule, or an RD's
-- starting table
abbrev pub state_uses : Machine → RmmGranuleState → Option ℕ → ℕ → List ℕ → ℕ → ℕ → ℕ → Option Used
state_uses m Rtt owner level page g i part = if nat_lt i 512 then entry_uses m owner level (entry_in_page page i) part else None
state_uses m (IsRec rec) owner level page g i part =
    if nat_lt i m.settings.aux && part == 0 then option_map (used RecAux owner 0) (granule_named m (aux_of page i)) else None
state_uses m (Rd realm) owner level page g i part =
    if nat_lt i realm.table_count && part == 0 then Some (used Rtt (Some g) realm.start_level (realm.first_table + i)) else None
state_uses m _ owner level page g i part = None

-- The granule that a given granule uses at an index of its entries, auxiliary granules or starting tables. Only a
-- mapping has more than one part: its pages.
unfoldable pub uses : Machine → (ℕ → ℕ) → ℕ → ℕ → ℕ → Option Used
uses m level g i part = state_uses m (granule_at m g).state (granule_at m g).owner (level g) (page_in m g) g i part

-- ---- roles

-- This granule is used exactly once, and its state requires a user. The use has the number, the attributes and the
-- level that `at` gives for the granule.
pub record IsUsed (gives : ℕ → ℕ → ℕ → Option Used) (at : ℕ → Used) (granule : ℕ) : Type 0 where
  pub user : ℕ
  pub index : ℕ
  pub part : ℕ
  pub is : gives user index part ≡ Some (at granule)
  pub once : (x i k : ℕ) (u : Used) → gives x i k ≡ Some u → u.number ≡ granule → (x ≡ user) × (i ≡ index) × (k ≡ part)
  pub role : has_user (at granule).attributes.state ≡ true

-- No granule uses this granule, and its state requires no user.
pub record HasNoUser (gives : ℕ → ℕ → ℕ → Option Used) (at : ℕ → Used) (granule : ℕ) : Type 0 where
  pub none : (x i k : ℕ) (u : Used) → gives x i k ≡ Some u → u.number ≢ granule
  pub role : has_user (at granule).attributes.state ≡ false

abbrev pub HasOneRole : (ℕ → ℕ → ℕ → Option Used) → (ℕ → Used) → ℕ → Type 0
HasOneRole gives at granule = IsUsed gives at granule ⊎ HasNoUser gives at granule

-- ---- machines

-- A machine has the settings of a platform, at most 4,096 granules with 4,096 bytes each, and the starting tables of
-- each realm.
pub record IsSound (m : Machine) : Type 0 where
  pub platform : IsPlatform m.settings
  pub few : length m.granules ≤ 4096
  pub pages : length m.pages ≡ length m.granules
  pub whole : (granule : ℕ) → granule < length m.granules → length (page_in m granule) ≡ 4096
  pub tables : HasTables m.granules

-- a granule of the machine begins at the given address
abbrev pub IsBegin : Machine → ℕ → Type 0
IsBegin m address = (is_inside m address ≡ true) × (address ≡ m.settings.base + number_of m address * 4096)

-- if an entry is TABLE or ASSIGNED, a granule of the machine begins at the address in it
abbrev pub LeadsInside : Machine → RmmRttEntry → Type 0
LeadsInside m (Table address) = IsBegin m address
LeadsInside m (Assigned ripas address) = IsBegin m address
LeadsInside m _ = Unit {0}

-- Each granule has one role, tables are of level 3 at most, and their entries lead to granules of the machine.
pub record IsLinked (m : Machine) : Type 0 where
  pub sound : IsSound m
  pub level : ℕ → ℕ
  pub roles : (granule : ℕ) → HasOneRole (uses m level) (used_at m level) granule
  pub most : (table : ℕ) → (granule_at m table).state ≡ Rtt → level table ≤ 3
  pub inside : (table i : ℕ) → (granule_at m table).state ≡ Rtt → i < 512 → LeadsInside m (entry_in_page (page_in m table) i)

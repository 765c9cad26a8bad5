-- The table at which a walk ends, the addresses that a table serves, and the next live entry. RMM 1.0, RttWalk.
use Rattle.std.specs.Prelude.{◌≡◌, ℕ, zero, suc, ◌+◌, ◌*◌, ◌/◌, ◌%◌, ◌<◌, ◌≤◌, ◌⊎◌, true, false, Some}
use Rattle.rmm_model.specs.declared.granule.RmmGranuleState.TheVariants.{Rtt}
use Rattle.rmm_model.specs.declared.realm.RmmRealm.{RmmRealm}
use Rattle.rmm_model.specs.declared.realm.RttWalk.{RttWalk}
use Rattle.rmm_model.specs.Entry.{is_live, is_table}
use Rattle.rmm_model.specs.Granule.{of_realm}
use Rattle.rmm_model.specs.Level.{entry_size}
use Rattle.rmm_model.specs.Machine.{Machine, granule_at, page_in}
use Rattle.rmm_model.specs.Table.{entry_in_page}
use Rattle.rmm_model.specs.Walk.{entry_at, table_below, walk}

-- a granule is a table of the realm whose RD is given
abbrev pub IsTableOf : Machine → ℕ → ℕ → Type 0
IsTableOf m rd granule = granule_at m granule ≡ of_realm rd Rtt

-- the result of a walk that ends in the given table, at the given level
abbrev pub walked_to : ℕ → ℕ → RttWalk
walked_to table level = record { table = table; level = level }

-- A table, a given number of levels below a realm's starting tables, serves the IPAs from `first` on. It is a starting
-- table, or an entry of a table that serves leads to it, and it serves the IPAs that the entry covers.
unfoldable pub Serves : Machine → RmmRealm → ℕ → ℕ → ℕ → Type 0
Serves m realm zero table first = (k : ℕ) × (k < realm.table_count) × (table ≡ realm.first_table + k) × (first ≡ k * (512 * entry_size realm.start_level))
Serves m realm (suc levels) table first = (above : ℕ) × (from : ℕ) × (i : ℕ) × Serves m realm levels above from × (i < 512) × (table_below m (entry_in_page (page_in m above) i) ≡ Some table)
    × (first ≡ from + i * entry_size (realm.start_level + levels))

-- The walk of an IPA towards level `to` ends at a table of the realm that serves the IPA. The walk's level is that of
-- the table, and at most `to`. It is `to`, or the IPA's entry in that table is not TABLE.
pub record EndsWell (m : Machine) (level : ℕ → ℕ) (rd : ℕ) (realm : RmmRealm) (ipa to : ℕ) (found : RttWalk) : Type 0 where
  pub table : IsTableOf m rd found.table
  pub is_level : level found.table ≡ found.level
  pub above : found.level ≤ to
  pub end : (found.level ≡ to) ⊎ (is_table (entry_at m found ipa) ≡ false)
  pub levels : ℕ
  pub first : ℕ
  pub serves : Serves m realm levels found.table first
  pub depth : found.level ≡ realm.start_level + levels
  pub low : first ≤ ipa
  pub high : ipa < first + 512 * entry_size found.level

-- the walk of an address of a realm ends at an entry that is not live
abbrev pub IsDeadAt : Machine → RmmRealm → ℕ → Type 0
IsDeadAt m realm ipa = is_live (entry_at m (walk m realm ipa 3) ipa) ≡ false

-- the first address above those that the table at the end of a walk serves
abbrev pub end_of : RttWalk → ℕ → ℕ
end_of found ipa = (ipa / entry_size found.level / 512 + 1) * (512 * entry_size found.level)

-- A top is at a live entry of the table where a walk ended, or at that table's end. It is not at an entry before that
-- of the walked IPA. It is the walked IPA itself, or the first address of an entry.
pub record IsAtLive (m : Machine) (found : RttWalk) (ipa to : ℕ) : Type 0 where
  pub is : ((is_live (entry_at m found to) ≡ true) × (to < end_of found ipa)) ⊎ (to ≡ end_of found ipa)
  pub low : ipa / entry_size found.level ≤ to / entry_size found.level
  pub begins : (to ≡ ipa) ⊎ (to % entry_size found.level ≡ 0)

-- The walk of an address ends at an entry that is not live, and the address's entry in the given walk's table is not
-- live either.
abbrev pub IsPassed : Machine → RmmRealm → RttWalk → ℕ → Type 0
IsPassed m realm found x = IsDeadAt m realm x × (is_live (entry_at m found x) ≡ false)

-- A top is above an address, at a live entry of the walk's table or at that table's end. No live entry is passed from
-- the address up to the top.
pub record IsNextTop (m : Machine) (realm : RmmRealm) (found : RttWalk) (ipa to : ℕ) : Type 0 where
  pub further : ipa < to
  pub met : IsAtLive m found ipa to
  pub skipped : (x : ℕ) → ipa ≤ x → x < to → IsPassed m realm found x

-- A table of realm `rd` begins at `address`, one level below `table`. The table at `address` has level 3 at most.
pub record LeadsToTable (m : Machine) (level : ℕ → ℕ) (rd table address : ℕ) : Type 0 where
  pub granule : ℕ
  pub begins : address ≡ m.settings.base + granule * 4096
  pub is : IsTableOf m rd granule
  pub below : level granule ≡ level table + 1
  pub most : level granule ≤ 3

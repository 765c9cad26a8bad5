-- The invariants of the rows of a realm's translation tables, and of the bytes of granules, and predicates on granule
-- states.
use Rattle.std.specs.Prelude.{◌≡◌, ℕ, ◌+◌, ◌-◌, ◌<◌, ◌≤◌, ◌==◌, ◌||◌, Bool, true, false, Option, Some, None, is_some, option_map}
use Rattle.std.specs.FinMap.{get}
use Rattle.granule_addr.specs.Ipa.{first_covered, is_protected_at}
use Rattle.granule_addr.specs.Root.{served_space}
use Rattle.realm_model.specs.declared.states.GranuleState.{GranuleState}
use Rattle.realm_model.specs.declared.states.GranuleState.TheVariants.{Undelegated, Delegated, Rd, Data}
use Rattle.realm_model.specs.declared.states.EntryState.{EntryState}
use Rattle.realm_model.specs.declared.states.EntryState.TheVariants.{Unassigned, Assigned, Table}
use Rattle.realm_model.specs.declared.states.Ripas.TheVariants.{Empty}
use Rattle.realm_model.specs.Rows.{Row, Rows, row_at, unassigned, is_table_state, is_table}
use Rattle.granule_addr.specs.Page.{zero_page}
use Rattle.realm_model.specs.Machine.{Cell}
use Rattle.realm_model.specs.Ownership.{Mapping, mapping_of_row}

-- the mapping of the row at a place, or None if there is no row
abbrev pub mapping_at : Rows → ℕ × ℕ → Option Mapping
mapping_at rows place = option_map mapping_of_row (get rows place)

abbrev pub IsKind : ℕ → EntryState → Option ℕ → Type 0
IsKind level Unassigned granule = granule ≡ None
IsKind level Assigned granule = (level ≡ 3) × (is_some granule ≡ true)
IsKind level Table granule = (level ≤ 2) × (is_some granule ≡ true)

abbrev pub IsShaped : ℕ → Option Mapping → Type 0
IsShaped level None = Unit {0}
IsShaped level (Some row) = IsKind level row.state row.granule

abbrev pub is_table_kind : Option Mapping → Bool
is_table_kind None = false
is_table_kind (Some row) = is_table_state row.state

-- the place is of level 1, or the row above it is TABLE
abbrev pub has_table : (ℕ × ℕ → Option Mapping) → ℕ × ℕ → Bool
has_table rows place = place.0 == 1 || is_table_kind (rows (place.0 - 1, first_covered (place.0 - 1) place.1))

-- a row can have this place: the level is 1 to 3, and the IPA granule is the first that the row covers, inside an
-- address space of this width
pub record IsPlace (width : ℕ) (place : ℕ × ℕ) : Type 0 where
  pub least : 1 ≤ place.0
  pub most : place.0 ≤ 3
  pub first : first_covered place.0 place.1 ≡ place.1
  pub inside : place.1 < served_space width

-- Each row has a valid place, leads to a granule or to none, as the row's state requires, and, below level 1, has a
-- TABLE row above it. An UNASSIGNED row has no granule. An ASSIGNED row, of level 3, and a TABLE row, of level 1 or 2,
-- have one.
pub record IsSoundRows (width : ℕ) (rows : ℕ × ℕ → Option Mapping) : Type 0 where
  pub placed : (place : ℕ × ℕ) → is_some (rows place) ≡ true → IsPlace width place
  pub shaped : (place : ℕ × ℕ) → IsShaped place.0 (rows place)
  pub below : (place : ℕ × ℕ) → is_some (rows place) ≡ true → has_table rows place ≡ true

-- every place of a starting table has a row, and so has every place directly below a TABLE row
pub record IsFull (width : ℕ) (rows : ℕ × ℕ → Option Mapping) : Type 0 where
  pub root : (ipa : ℕ) → ipa < served_space width → is_some (rows (1, first_covered 1 ipa)) ≡ true
  pub tables : (level ipa : ℕ) → is_table_kind (rows (level, first_covered level ipa)) ≡ true → is_some (rows (level + 1, first_covered (level + 1) ipa)) ≡ true

-- in a realm of the given width, rows of unprotected IPA granules are UNASSIGNED and EMPTY, and TABLE rows count as
-- EMPTY
pub record HasEmptyRows (width : ℕ) (rows : Rows) : Type 0 where
  pub unprotected : (level ipa : ℕ) (row : Row) → is_protected_at ipa width ≡ false → row_at rows level ipa ≡ Some row → row ≡ unassigned Empty
  pub tables : (place : ℕ × ℕ) (row : Row) → get rows place ≡ Some row → is_table row ≡ true → row.ripas ≡ Empty

abbrev pub is_host_state : GranuleState → Bool
is_host_state Undelegated = true
is_host_state Delegated = true
is_host_state _ = false

abbrev pub is_rd_state : GranuleState → Bool
is_rd_state Rd = true
is_rd_state _ = false

-- the state is one in which all bytes of a granule are zero: any but UNDELEGATED and DATA
abbrev pub is_zero_state : GranuleState → Bool
is_zero_state Undelegated = false
is_zero_state Data = false
is_zero_state _ = true

abbrev pub IsZeroed : (ℕ → Cell) → Type 0
IsZeroed cells = (granule : ℕ) → is_zero_state (cells granule).state ≡ true → (cells granule).bytes ≡ zero_page

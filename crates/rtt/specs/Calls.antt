-- The conditions and effects that are stated in the contracts of calls on translation tables.
use Rattle.std.specs.Prelude.{◌≡◌, ℕ, ◌-◌, Bool, List, Option, Some, unwrap_or, slice_set}
use Rattle.granule_addr.specs.declared.width.Root.{Root}
use Rattle.rtt.specs.declared.granule.Granule.{Granule}
use Rattle.page_arena.specs.Page.{page_at}
use Rattle.realm_model.specs.declared.states.GranuleState.{GranuleState}
use Rattle.realm_model.specs.declared.states.Ripas.{Ripas}
use Rattle.realm_model.specs.Rows.{Row, Rows, row_at, unassigned, assigned, unmapped_ripas, put_row, with_table}
use Rattle.realm_model.specs.StepLaw.{set_each}
use Rattle.rtt.specs.Realm.{IsBacked, HasTables, IsTableOf, LeavesOthers}

-- the granules, with one of them changed to the given state and to the given realm, or to no realm
abbrev pub with_state : List Granule → ℕ → GranuleState → Option ℕ → List Granule
with_state granules granule state realm = slice_set granules granule (record { state = state; realm = realm })

-- the granules, with several of them changed to the given state and to the given realm, or to no realm
abbrev pub with_states : List Granule → List ℕ → GranuleState → Option ℕ → List Granule
with_states granules these state realm = set_each (record { state = state; realm = realm }) these granules

-- at this level, the row that covers the IPA granule leads to this granule
abbrev pub LeadsTo : Rows → ℕ → ℕ → ℕ → Type 0
LeadsTo rows level ipa granule = (row : Row) × (row_at rows level ipa ≡ Some row) × (row.granule ≡ Some granule)

-- ---- the invariants of a call

-- A call keeps the invariants of what lies outside its realm's tables. There is a granule for each page, and those that
-- are not UNDELEGATED have taken pages. The same pages are free, and all other realms are left alone.
pub record KeepsRest (rd : ℕ) (pages : List (List ℕ)) (free : List Bool) (granules : List Granule)
    (new_pages : List (List ℕ)) (new_free : List Bool) (new_granules : List Granule) : Type 0 where
  pub backed : IsBacked new_pages new_free new_granules
  pub flags : new_free ≡ free
  pub other_realms : LeavesOthers rd pages granules new_pages new_granules

-- A call keeps the invariant of the realm's tables, and the invariants of what lies outside these tables. After the
-- call the realm has starting tables.
pub record Keeps (rd : ℕ) (root : Root) (pages : List (List ℕ)) (free : List Bool) (granules : List Granule)
    (new_pages : List (List ℕ)) (new_free : List Bool) (new_granules : List Granule) : Type 0 where
  pub tables : HasTables new_pages new_granules rd root
  pub rest : KeepsRest rd pages free granules new_pages new_free new_granules

-- The bytes of each granule are unchanged, except those of the realm's tables.
abbrev pub ChangesTablesOnly : Root → List (List ℕ) → List (List ℕ) → Type 0
ChangesTablesOnly root pages new_pages = (granule : ℕ) → ¬ (IsTableOf pages root granule) → page_at new_pages granule ≡ page_at pages granule

-- The bytes of each granule are unchanged, except those of the realm's tables and of granules for which `IsOneMore`
-- holds.
abbrev pub ChangesTablesAnd : (ℕ → Type 0) → Root → List (List ℕ) → List (List ℕ) → Type 0
ChangesTablesAnd IsOneMore root pages new_pages =
    (granule : ℕ) → ¬ (IsOneMore granule) → ¬ (IsTableOf pages root granule) → page_at new_pages granule ≡ page_at pages granule

-- ---- rows after a call that was not refused

-- After the call, the realm has one more table, whose rows have the RIPAS that the row above it had. RMM 1.0,
-- RMI_RTT_CREATE.
abbrev pub GainsTable : Rows → ℕ → ℕ → ℕ → Rows → Type 0
GainsTable old level ipa granule new =
    (above : Row) → row_at old (level - 1) ipa ≡ Some above → new ≡ with_table old level ipa granule above.ripas

-- After the call, the row at an IPA granule leads to a page of data. It gets the given RIPAS, or keeps its own if none
-- is given. RMM 1.0, RMI_DATA_CREATE and RMI_DATA_CREATE_UNKNOWN.
abbrev pub GainsPage : Rows → ℕ → ℕ → Option Ripas → Rows → Type 0
GainsPage old ipa page ripas new = (row : Row) → row_at old 3 ipa ≡ Some row → new ≡ put_row old 3 ipa (assigned (unwrap_or ripas row.ripas) page)

-- The row at an IPA granule becomes UNASSIGNED, and its RIPAS becomes DESTROYED if it was RAM. RMM 1.0,
-- RMI_DATA_DESTROY.
abbrev pub LosesPage : Rows → ℕ → Rows → Type 0
LosesPage old ipa new = (row : Row) → row_at old 3 ipa ≡ Some row → new ≡ put_row old 3 ipa (unassigned (unmapped_ripas row.ripas))

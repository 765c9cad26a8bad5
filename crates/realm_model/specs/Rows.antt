-- The translation of a realm, as rows by level and IPA granule, and not as tables of entries. RMM 1.0, Realm
-- Translation Table.
use Rattle.std.specs.Prelude.{ℕ, zero, suc, ◌+◌, ◌-◌, ◌*◌, ◌/◌, ◌%◌, ◌==◌, ◌&&◌, ◌||◌, Bool, true, false, not, nat_lt, nat_le, Option, Some, None, if◌then◌else◌}
use Rattle.std.specs.Ordering.{nat_cmp, on, then_cmp}
use Rattle.std.specs.declared.cmp.Ordering.{Ordering}
use Rattle.std.specs.FinMap.{FinMap, empty, get, insert, retain_keys}
use Rattle.granule_addr.specs.Ipa.{covered_count, first_covered}
use Rattle.granule_addr.specs.Root.{start_count}
use Rattle.realm_model.specs.declared.states.EntryState.{EntryState}
use Rattle.realm_model.specs.declared.states.EntryState.TheVariants.{Unassigned, Assigned, Table}
use Rattle.realm_model.specs.declared.states.Ripas.{Ripas}
use Rattle.realm_model.specs.declared.states.Ripas.TheVariants.{Empty, Ram, Destroyed}

-- An entry of a realm's translation. RMM 1.0, RTT entry. A row that is ASSIGNED or TABLE has the granule that it leads
-- to. A TABLE row counts as EMPTY.
pub record Row : Type 0 where
  pub state : EntryState
  pub ripas : Ripas
  pub granule : Option ℕ

-- The comparison of two places by level, and then by first IPA granule.
abbrev pub place_cmp : ℕ × ℕ → ℕ × ℕ → Ordering
place_cmp = then_cmp (on (λ p. p.0) nat_cmp) (on (λ p. p.1) nat_cmp)

-- the rows of a realm by their places
abbrev pub Rows : Type 0
Rows = FinMap place_cmp Row

-- the row of the given level that covers an IPA granule, or None if there is no such row
abbrev pub row_at : Rows → ℕ → ℕ → Option Row
row_at rows level ipa = get rows (level, first_covered level ipa)

-- ---- walks. RMM 1.0, RTT walk

-- the level and the row at which a walk ends
pub record Walk : Type 0 where
  pub level : ℕ
  pub row : Row

-- The end of a walk, which is the deepest row at the given level or above that covers the IPA granule; None if there is
-- no such row.
unfoldable pub walk : Rows → ℕ → ℕ → Option Walk
walk rows ipa zero = None
walk rows ipa (suc level) = elim (row_at rows (suc level) ipa) [
  | Some row ↦ Some (record { level = suc level; row = row })
  | None ↦ walk rows ipa level
]

-- ---- rows by the state of the entry. RMM 1.0, RTT entry state

-- an UNASSIGNED row with the given RIPAS
abbrev pub unassigned : Ripas → Row
unassigned ripas = record { state = Unassigned; ripas = ripas; granule = None }

-- an ASSIGNED row that has the given RIPAS and leads to the given granule
abbrev pub assigned : Ripas → ℕ → Row
assigned ripas granule = record { state = Assigned; ripas = ripas; granule = Some granule }

-- a TABLE row that leads to the given table
abbrev pub table : ℕ → Row
table granule = record { state = Table; ripas = Empty; granule = Some granule }

abbrev pub is_unassigned_state : EntryState → Bool
is_unassigned_state state = elim state [ Unassigned ↦ true | Assigned ↦ false | Table ↦ false ]

abbrev pub is_assigned_state : EntryState → Bool
is_assigned_state state = elim state [ Unassigned ↦ false | Assigned ↦ true | Table ↦ false ]

abbrev pub is_table_state : EntryState → Bool
is_table_state state = elim state [ Unassigned ↦ false | Assigned ↦ false | Table ↦ true ]

abbrev pub is_unassigned : Row → Bool
is_unassigned row = is_unassigned_state row.state

abbrev pub is_assigned : Row → Bool
is_assigned row = is_assigned_state row.state

abbrev pub is_table : Row → Bool
is_table row = is_table_state row.state

-- the table that a row leads to, or None if the row is not TABLE
abbrev pub table_of : Row → Option ℕ
table_of row = if is_table row then row.granule else None

-- the granule that a row leads to, or None if the row is not ASSIGNED
abbrev pub data_of : Row → Option ℕ
data_of row = if is_assigned row then row.granule else None

-- The RIPAS of an entry after its page is unmapped. RMM 1.0, RMI_DATA_DESTROY.
abbrev pub unmapped_ripas : Ripas → Ripas
unmapped_ripas Empty = Empty
unmapped_ripas Ram = Destroyed
unmapped_ripas Destroyed = Destroyed

-- ---- several rows at once

-- All of `n` adjacent rows of a level, the first at IPA granule `first`, exist, and the test holds of each. Commands
-- ask only for rows of a table, and these all exist, so no command is refused for a missing row.
unfoldable pub all_rows : (Row → Bool) → Rows → ℕ → ℕ → ℕ → Bool
all_rows test rows level first zero = true
all_rows test rows level first (suc n) =
    elim (get rows (level, first + n * covered_count level)) [ Some row ↦ test row | None ↦ false ]
    && all_rows test rows level first n

-- the rows after `change` is applied to `n` adjacent rows of a level, the first at IPA granule `first`
unfoldable pub put_rows : (Option Row → Row) → Rows → ℕ → ℕ → ℕ → Rows
put_rows change rows level first zero = rows
put_rows change rows level first (suc n) =
    let place : ℕ × ℕ = (level, first + n * covered_count level) in
    insert (put_rows change rows level first n) place (change (get rows place))

-- the rows, less each row of the given level whose IPA granule is at least `first` and below `first + count`
unfoldable pub drop_rows : Rows → ℕ → ℕ → ℕ → Rows
drop_rows rows level first count =
    retain_keys rows (λ place. not (place.0 == level && nat_le first place.1 && nat_lt place.1 (first + count)))

abbrev pub put_row : Rows → ℕ → ℕ → Row → Rows
put_row rows level ipa row = insert rows (level, first_covered level ipa) row

-- ---- the rows after commands

-- The rows of a new realm with a given IPA width, 512 for each of its starting tables. RMM 1.0, RMI_REALM_CREATE. Rows
-- of unprotected IPAs are like the others, which is this profile's own.
unfoldable pub root_rows : ℕ → Rows
root_rows width = put_rows (λ _. unassigned Empty) empty 1 0 (512 * start_count width)

-- The rows after a table of the given level is added at an IPA granule. The row above leads to the table. The table's
-- rows are UNASSIGNED and have the given RIPAS, which RMI_RTT_CREATE takes from the row above. RMM 1.0, RMI_RTT_CREATE.
unfoldable pub with_table : Rows → ℕ → ℕ → ℕ → Ripas → Rows
with_table rows level ipa granule ripas =
    put_rows (λ _. unassigned ripas) (put_row rows (level - 1) ipa (table granule)) level ipa 512

-- The rows after a table is removed. The table's rows are gone, and the row above is UNASSIGNED and DESTROYED. RMM 1.0,
-- RMI_RTT_DESTROY.
unfoldable pub without_table : Rows → ℕ → ℕ → Rows
without_table rows level ipa =
    put_row (drop_rows rows level ipa (512 * covered_count level)) (level - 1) ipa (unassigned Destroyed)

-- all rows of a table, given by its level and its first IPA granule, are UNASSIGNED
unfoldable pub is_table_unused : Rows → ℕ → ℕ → Bool
is_table_unused rows level ipa = all_rows is_unassigned rows level ipa 512

-- A row with its RIPAS changed to RAM. Commands change only rows that exist, so the first case never occurs.
abbrev pub as_ram : Option Row → Row
as_ram None = unassigned Ram
as_ram (Some row) = record row { ripas = Ram }

-- The rows after `count` pages, the first at IPA granule `ipa`, become RAM. RMM 1.0, RMI_RTT_INIT_RIPAS.
unfoldable pub with_ram : Rows → ℕ → ℕ → Rows
with_ram rows ipa count = put_rows as_ram rows 3 ipa count

-- a row of the starting tables leads to a table
abbrev pub has_root_table : ℕ → Rows → Bool
has_root_table width rows = not (all_rows (λ row. not (is_table row)) rows 1 0 (512 * start_count width))

-- ---- the places of tables. RMM 1.0, RMI_RTT_CREATE, input conditions

-- the level is 2 or 3, and the IPA granule is the first one of a table of that level
abbrev pub is_table_place : ℕ → ℕ → Bool
is_table_place ipa level = (level == 2 || level == 3) && ipa % covered_count (level - 1) == 0

-- ---- the pages that one call makes RAM. RMM 1.0, RMI_RTT_INIT_RIPAS, input conditions

-- `count` is 1 to 512, and one table of level 3 covers the `count` pages from IPA granule `ipa` on
abbrev pub is_page_run : ℕ → ℕ → Bool
is_page_run ipa count = nat_le 1 count && nat_le count 512 && ipa / 512 == (ipa + count - 1) / 512

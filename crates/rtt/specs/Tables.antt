-- A realm's rows, computed from the entries in the granules of its tables. RMM 1.0, Realm Translation Table.
use Rattle.std.specs.Prelude.{ℕ, zero, suc, ◌&&◌, ◌==◌, Bool, cond, nat_lt, nat_le, List, Option, Some, None, option_and_then}
use Rattle.granule_addr.specs.Ipa.{first_covered, entry_index}
use Rattle.granule_addr.specs.Root.{start_table, served_space}
use Rattle.granule_addr.specs.declared.width.Root.{Root}
use Rattle.page_arena.specs.Word.{word_at}
use Rattle.realm_model.specs.Rows.{Row, Rows, table_of, data_of}
use Rattle.rtt.specs.Word.{entry_of}
use Rattle.rtt.specs.FiniteRows.{rows_by}

-- a function that gives the entry at each index of each granule
abbrev pub Entries : Type 0
Entries = ℕ → ℕ → Row

-- the entries decoded from the words of pages
unfoldable pub entries_of : List (List ℕ) → Entries
entries_of pages granule index = entry_of (word_at pages granule index)

-- The table that serves an IPA granule at a given level. At level 1 the table is a starting table; at any other level
-- the entry above leads to the table.
unfoldable pub table_at : Entries → Root → ℕ → ℕ → Option ℕ
table_at entries root zero ipa = None
table_at entries root (suc zero) ipa = Some (start_table root ipa)
table_at entries root (suc (suc level)) ipa =
    option_and_then (λ table. table_of (entries table (entry_index (suc level) ipa))) (table_at entries root (suc level) ipa)

-- the entry for an IPA granule in the table of this level, if a table of this level serves the IPA granule
abbrev pub entry_at : Entries → Root → ℕ → ℕ → Option Row
entry_at entries root level ipa = option_and_then (λ table. Some (entries table (entry_index level ipa))) (table_at entries root level ipa)

-- the page of data that the entry for an IPA granule in the table of this level leads to, if any
abbrev pub data_at : Entries → Root → ℕ → ℕ → Option ℕ
data_at entries root level ipa = option_and_then (λ table. data_of (entries table (entry_index level ipa))) (table_at entries root level ipa)

-- a row of a level can begin at the IPA granule, in an address space of the given width
unfoldable pub is_place : ℕ → ℕ → ℕ → Bool
is_place width level ipa = nat_le 1 level && nat_le level 3 && nat_lt ipa (served_space width) && first_covered level ipa == ipa

-- the row at a place; none if no row can begin there, or if no table of the level serves it
unfoldable pub row_in : Entries → Root → ℕ → ℕ → Option Row
row_in entries root level ipa = cond (is_place root.width level ipa) (entry_at entries root level ipa) None

unfoldable pub rows_in : Entries → Root → Rows
rows_in entries root = rows_by (served_space root.width) (row_in entries root)

-- A realm's rows, decoded from the words of pages: the entries of its tables, from the starting tables down.
unfoldable pub rows : List (List ℕ) → Root → Rows
rows pages root = rows_in (entries_of pages) root

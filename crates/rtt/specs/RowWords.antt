-- The condition that each word of a realm's translation tables encodes its row. The tables below the starting tables
-- are those that the rows lead to. RMM 1.0, RTT entry.
use Rattle.std.specs.Prelude.{◌≡◌, ℕ, ◌-◌, ◌==◌, List, Option, Some, option_and_then, if◌then◌else◌}
use Rattle.granule_addr.specs.Ipa.{entry_index}
use Rattle.granule_addr.specs.Root.{start_table}
use Rattle.granule_addr.specs.declared.width.Root.{Root}
use Rattle.page_arena.specs.Word.{word_at}
use Rattle.realm_model.specs.Rows.{Row, Rows, row_at, table_of}
use Rattle.rtt.specs.Word.{entry_word}
use Rattle.rtt.specs.Tables.{rows}
use Rattle.rtt.specs.Realm.{IsInside}

-- the table that serves an IPA granule at a level: a starting table, or the table that the row above leads to
abbrev pub table_by : Rows → Root → ℕ → ℕ → Option ℕ
table_by rows root level ipa =
    if level == 1 then Some (start_table root ipa) else option_and_then table_of (row_at rows (level - 1) ipa)

-- Each word of the tables, from the starting tables down, encodes its row.
abbrev pub AreWordsOf : List (List ℕ) → Rows → Root → Type 0
AreWordsOf pages rows root =
    (level ipa table : ℕ) (row : Row) → IsInside root.width level ipa → table_by rows root level ipa ≡ Some table
    → row_at rows level ipa ≡ Some row → word_at pages table (entry_index level ipa) ≡ entry_word row

-- Each word of a realm's tables encodes its row.
abbrev pub AreRowWords : List (List ℕ) → Root → Type 0
AreRowWords pages root = AreWordsOf pages (rows pages root) root

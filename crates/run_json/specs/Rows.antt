-- The translation table rows of a realm by ascending address, with adjacent equal rows of one table as one item. RMM
-- 1.0, RTT walk, RTT entry.
use Rattle.std.specs.Prelude.{◌≡◌, ℕ, ◌+◌, ◌-◌, ◌*◌, ◌<◌, ◌==◌, false, List, [], ◌∷◌, ◌++◌, if◌then◌else◌, Option, Some, None}
use Rattle.std.specs.List.{flat_map, range_with_len}
use Rattle.granule_addr.specs.Ipa.{covered_count}
use Rattle.realm_model.specs.Rows.{is_table_place}
use Rattle.realm_model.specs.World.{World}
use Rattle.realm_host.specs.Readings.{row_at}
use Rattle.realm_host.specs.declared.reading.RowView.{RowView}
use Rattle.run_json.specs.declared.items.RowItem.{RowItem}

-- ---- runs: successive rows of one table with the same entry

-- the first IPA granule after a run of `count` equal rows that begins with this row
abbrev pub first_after : RowView → ℕ → ℕ
first_after row count = row.first + count * covered_count row.level

-- A run of rows equal to this one goes on at an IPA granule: an equal row begins there, and no table begins there. The
-- starting tables count as one table.
pub record RunGoesOn (world : World) (build : ℕ) (row : RowView) (ipa : ℕ) : Type 0 where
  pub same : row_at world build ipa 3 ≡ Some (record row { first = ipa })
  pub inside : is_table_place ipa row.level ≡ false

-- the run of equal rows that begins with this row has exactly `count` rows
pub record IsRowRun (world : World) (build : ℕ) (row : RowView) (count : ℕ) : Type 0 where
  pub some : 0 < count
  pub same : (k : ℕ) → 0 < k → k < count → RunGoesOn world build row (first_after row k)
  pub longest : ¬ RunGoesOn world build row (first_after row count)

-- the items are the runs of equal rows of the build's realm, one after another, from an IPA granule to the last row
abbrev pub AreRowRuns : World → ℕ → ℕ → List RowItem → Type 0
AreRowRuns world build ipa [] = row_at world build ipa 3 ≡ None
AreRowRuns world build ipa (run ∷ runs) =
    (row_at world build ipa 3 ≡ Some run.row) × IsRowRun world build run.row run.count × AreRowRuns world build (first_after run.row run.count) runs

-- ---- items

-- a list of the one item of this row, if the row begins at that IPA granule; an empty list otherwise
abbrev pub beginning_at : ℕ → Option RowView → List RowItem
beginning_at ipa None = []
beginning_at ipa (Some row) = if row.first == ipa then record { row = row; count = 1 } ∷ [] else []

-- For each level above this row's, from level 1 on, the row that begins at the same IPA granule, if there is one. They
-- are the TABLE rows of the tables that begin with this row.
abbrev pub rows_above : World → ℕ → RowView → List RowItem
rows_above world build row = flat_map (λ level. beginning_at row.first (row_at world build row.first level)) (range_with_len 1 (row.level - 1))

-- the rows of the levels above that begin where a run of equal rows begins, and then the run itself, each as an item
abbrev pub run_items : World → ℕ → RowItem → List RowItem
run_items world build run = rows_above world build run.row ++ run ∷ []

-- The items are those of all rows of a build's realm. There is one such list: each run begins at the row that the walk
-- finds, and goes on as long as it can.
pub record AreRowsOf (world : World) (build : ℕ) (items : List RowItem) : Type 0 where
  pub runs : List RowItem
  pub are_runs : AreRowRuns world build 0 runs
  pub whole : items ≡ flat_map (run_items world build) runs

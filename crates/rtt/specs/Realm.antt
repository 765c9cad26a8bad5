-- The invariant of a realm's tables, and the conditions that preserve it.
use Rattle.std.specs.Prelude.{◌≡◌, ◌≢◌, ℕ, ◌/◌, ◌<◌, ◌≤◌, Bool, false, List, length, Some}
use Rattle.granule_addr.specs.Ipa.{covered_count, served_count}
use Rattle.granule_addr.specs.Root.{served_space}
use Rattle.granule_addr.specs.declared.width.Root.{Root}
use Rattle.rtt.specs.Granules.{granule_at, IsIn}
use Rattle.rtt.specs.declared.granule.Granule.{Granule}
use Rattle.page_arena.specs.Page.{page_at, is_free}
use Rattle.page_arena.specs.Word.{word_at}
use Rattle.realm_model.specs.declared.states.GranuleState.TheVariants.{Undelegated, Data, Rtt}
use Rattle.rtt.specs.Word.{entry_word}
use Rattle.realm_model.specs.Sound.{mapping_at, IsSoundRows}
use Rattle.rtt.specs.Tables.{Entries, entries_of, table_at, data_at, rows}

-- The page store has one page for each granule, and the page of a granule that is not UNDELEGATED is not free.
pub record IsBacked (pages : List (List ℕ)) (flags : List Bool) (granules : List Granule) : Type 0 where
  pub as_many : length granules ≡ length pages
  pub taken : (granule : ℕ) → granule < length granules → (granule_at granules granule).state ≢ Undelegated → is_free flags granule ≡ false

-- the level is 1 to 3, and the IPA granule is within an address space of this width
pub record IsInside (width level ipa : ℕ) : Type 0 where
  pub least : 1 ≤ level
  pub most : level ≤ 3
  pub below : ipa < served_space width

-- Each table is an RTT granule of the realm, each data page is a DATA granule of the realm, and none occurs twice.
pub record HasGranules (entries : Entries) (granules : List Granule) (rd : ℕ) (root : Root) : Type 0 where
  pub tables : (level ipa table : ℕ) → IsInside root.width level ipa → table_at entries root level ipa ≡ Some table → IsIn granules table Rtt (Some rd)
  pub tables_once : (level ipa other_level other table : ℕ) → IsInside root.width level ipa → IsInside root.width other_level other
      → table_at entries root level ipa ≡ Some table → table_at entries root other_level other ≡ Some table
      → (level ≡ other_level) × (ipa / served_count level ≡ other / served_count other_level)
  pub «data» : (level ipa page : ℕ) → IsInside root.width level ipa → data_at entries root level ipa ≡ Some page → IsIn granules page Data (Some rd)
  pub data_once : (level ipa other_level other page : ℕ) → IsInside root.width level ipa → IsInside root.width other_level other
      → data_at entries root level ipa ≡ Some page → data_at entries root other_level other ≡ Some page
      → (level ≡ other_level) × (ipa / covered_count level ≡ other / covered_count other_level)

-- each word of a realm's tables is decoded to an entry that is encoded as the same word
abbrev pub AreWords : List (List ℕ) → Root → Type 0
AreWords pages root = (level ipa table index : ℕ) → IsInside root.width level ipa → table_at (entries_of pages) root level ipa ≡ Some table → index < 512
    → word_at pages table index ≡ entry_word (entries_of pages table index)

-- A realm's tables are in granules of its own, and each of their words encodes its entry. The rows are sound: each has
-- a granule as its state requires, and below level 1 a TABLE row above it.
pub record HasTables (pages : List (List ℕ)) (granules : List Granule) (rd : ℕ) (root : Root) : Type 0 where
  pub own : HasGranules (entries_of pages) granules rd root
  pub words : AreWords pages root
  pub sound : IsSoundRows root.width (mapping_at (rows pages root))

-- the granule is one of the realm's tables
pub record IsTableOf (pages : List (List ℕ)) (root : Root) (granule : ℕ) : Type 0 where
  pub level : ℕ
  pub ipa : ℕ
  pub inside : IsInside root.width level ipa
  pub at : table_at (entries_of pages) root level ipa ≡ Some granule

-- A realm's RTT granules stay its RTT granules with the same bytes, and its DATA granules stay its DATA granules.
pub record LeavesAlone (rd : ℕ) (pages : List (List ℕ)) (granules : List Granule) (new_pages : List (List ℕ)) (new_granules : List Granule) : Type 0 where
  pub page : (granule : ℕ) → IsIn granules granule Rtt (Some rd) → page_at new_pages granule ≡ page_at pages granule
  pub table : (granule : ℕ) → IsIn granules granule Rtt (Some rd) → IsIn new_granules granule Rtt (Some rd)
  pub «data» : (granule : ℕ) → IsIn granules granule Data (Some rd) → IsIn new_granules granule Data (Some rd)

-- All realms but one are left alone.
abbrev pub LeavesOthers : ℕ → List (List ℕ) → List Granule → List (List ℕ) → List Granule → Type 0
LeavesOthers rd pages granules new_pages new_granules =
    (other : ℕ) → other ≢ rd → LeavesAlone other pages granules new_pages new_granules

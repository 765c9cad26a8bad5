-- The pages of a machine, with a flag for each page that says whether the page is free. RMM 1.0, Granule.
use Rattle.std.specs.Prelude.{◌≡◌, ℕ, ◌≤◌, Bool, false, List, [], length, slice_index_or, slice_set, All}

-- the bytes of a granule; a granule outside the machine has none
abbrev pub page_at : List (List ℕ) → ℕ → List ℕ
page_at pages granule = slice_index_or pages granule []

-- whether a granule is free; a granule outside the machine is not
abbrev pub is_free : List Bool → ℕ → Bool
is_free flags granule = slice_index_or flags granule false

-- all pages, with one byte of one of them set to a value
abbrev pub with_byte : List (List ℕ) → ℕ → ℕ → ℕ → List (List ℕ)
with_byte pages granule offset value = slice_set pages granule (slice_set (page_at pages granule) offset value)

-- There are 1 to 4,096 pages of 4,096 bytes each, and a flag for each page.
pub record IsSized (pages : List (List ℕ)) (flags : List Bool) : Type 0 where
  pub some_page : 1 ≤ length pages
  pub few_pages : length pages ≤ 4096
  pub whole : All (λ page. length page ≡ 4096) pages
  pub flagged : length flags ≡ length pages

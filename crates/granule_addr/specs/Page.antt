-- The bytes of a page in which every byte has the same value. RMM 1.0, Granule: 4 KiB.
use Rattle.std.specs.Prelude.{ℕ, List, replicate}

-- the bytes of a page in which every byte has the given value
unfoldable pub page_of : ℕ → List ℕ
page_of value = replicate 4096 value

abbrev pub zero_page : List ℕ
zero_page = page_of 0

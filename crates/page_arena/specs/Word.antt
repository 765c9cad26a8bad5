-- The 512 little-endian words of a page, of 8 bytes each.
use Rattle.std.specs.Prelude.{ℕ, zero, suc, ◌+◌, ◌*◌, ◌%◌, ◌^◌, List, [], ◌++◌, length, take, drop, slice_range, slice_set}
use Rattle.std.specs.Int.{from_le_bytes, to_le_bytes, w64}
use Rattle.page_arena.specs.Page.{page_at}

-- a page with `bytes` written into it, from the offset `at` on
unfoldable pub with_bytes : List ℕ → ℕ → List ℕ → List ℕ
with_bytes page at bytes = take at page ++ bytes ++ drop (at + length bytes) page

-- the 64-bit word at index `i` of a page, little-endian
unfoldable pub word_of_page : List ℕ → ℕ → ℕ
word_of_page page i = from_le_bytes w64 (slice_range page (8 * i) (8 * i + 8))

-- a page with its word i overwritten
unfoldable pub page_with_word : List ℕ → ℕ → ℕ → List ℕ
page_with_word page i word = with_bytes page (8 * i) (to_le_bytes w64 word)

-- word i of a granule
abbrev pub word_at : List (List ℕ) → ℕ → ℕ → ℕ
word_at pages granule i = word_of_page (page_at pages granule) i

-- the bytes of all granules, with word i of one granule overwritten
abbrev pub with_word : List (List ℕ) → ℕ → ℕ → ℕ → List (List ℕ)
with_word pages granule i word = slice_set pages granule (page_with_word (page_at pages granule) i word)

-- the bytes of `count` words, in sequence, where `f` gives the word at each index
unfoldable pub bytes_of_words : ℕ → (ℕ → ℕ) → List ℕ
bytes_of_words zero f = []
bytes_of_words (suc count) f = bytes_of_words count f ++ to_le_bytes w64 (f count)

-- word k of a rising sequence: `kind` plus the sum modulo 2^48 of `first` and k times `step`
abbrev pub rising_word : ℕ → ℕ → ℕ → ℕ → ℕ
rising_word kind first step k = kind + (first + k * step) % 2 ^ 48

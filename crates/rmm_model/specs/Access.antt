-- The sizes of a guest's memory accesses, and the values that an access reads or writes. Arm Architecture Reference
-- Manual, ESR_EL2, SAS. The address of an access is rounded down to a multiple of its size, so that each access is in
-- one page.
use Rattle.std.specs.Prelude.{ℕ, ◌+◌, ◌*◌, ◌/◌, ◌%◌, ◌^◌, ◌==◌, List, slice_index_or, slice_set, if◌then◌else◌}
use Rattle.page_arena.specs.Word.{word_of_page}
use Rattle.rmm_model.specs.declared.access.AccessSize.{AccessSize}
use Rattle.rmm_model.specs.declared.access.AccessSize.TheVariants.{Byte, Halfword, Word, Doubleword}
use Rattle.rmm_model.specs.Machine.{Machine, page_in, with_page, with_word}

-- the access size for a number of bytes; any number but 2, 4 and 8 counts as 1
abbrev pub access_size : ℕ → AccessSize
access_size bytes = if bytes == 2 then Halfword else (if bytes == 4 then Word else (if bytes == 8 then Doubleword else Byte))

-- the access size as the field SAS, bits 23:22, of a data abort syndrome
abbrev pub syndrome : AccessSize → ℕ
syndrome Byte = 0
syndrome Halfword = 0x400000
syndrome Word = 0x800000
syndrome Doubleword = 0xC00000

-- the low bytes of a value that an access of the given size reads or writes
abbrev pub low_bytes : AccessSize → ℕ → ℕ
low_bytes Byte value = value % 2 ^ 8
low_bytes Halfword value = value % 2 ^ 16
low_bytes Word value = value % 2 ^ 32
low_bytes Doubleword value = value

-- ---- loads, little endian

-- the little-endian value of two bytes of a page, from an offset on
unfoldable pub two_bytes_in : List ℕ → ℕ → ℕ
two_bytes_in page offset = slice_index_or page offset 0 + slice_index_or page (offset + 1) 0 * 2 ^ 8

-- the little-endian value of four bytes of a page, from an offset on
unfoldable pub four_bytes_in : List ℕ → ℕ → ℕ
four_bytes_in page offset = two_bytes_in page offset + two_bytes_in page (offset + 2) * 2 ^ 16

-- the value that an access of the given size reads from a page, at an IPA's page offset rounded down to a multiple of
-- the size
unfoldable pub value_in : List ℕ → AccessSize → ℕ → ℕ
value_in page Byte ipa = slice_index_or page (ipa % 4096) 0
value_in page Halfword ipa = two_bytes_in page (ipa % 4096 / 2 * 2)
value_in page Word ipa = four_bytes_in page (ipa % 4096 / 4 * 4)
value_in page Doubleword ipa = word_of_page page (ipa % 4096 / 8)

-- ---- stores, little endian

-- the machine after the low byte of a value is stored in a granule, at an offset
abbrev pub with_byte : Machine → ℕ → ℕ → ℕ → Machine
with_byte m granule offset value = with_page m granule (slice_set (page_in m granule) offset (value % 2 ^ 8))

-- the machine after the low two bytes of a value are stored in a granule, at an offset
unfoldable pub with_two_bytes : Machine → ℕ → ℕ → ℕ → Machine
with_two_bytes m granule offset value = with_byte (with_byte m granule offset value) granule (offset + 1) (value / 2 ^ 8)

-- the machine after the low four bytes of a value are stored in a granule, at an offset
unfoldable pub with_four_bytes : Machine → ℕ → ℕ → ℕ → Machine
with_four_bytes m granule offset value = with_two_bytes (with_two_bytes m granule offset value) granule (offset + 2) (value / 2 ^ 16)

-- the machine after a write of the given size to a granule, at an IPA's page offset rounded down to a multiple of the
-- size
unfoldable pub with_value : Machine → ℕ → AccessSize → ℕ → ℕ → Machine
with_value m granule Byte ipa value = with_byte m granule (ipa % 4096) value
with_value m granule Halfword ipa value = with_two_bytes m granule (ipa % 4096 / 2 * 2) value
with_value m granule Word ipa value = with_four_bytes m granule (ipa % 4096 / 4 * 4) value
with_value m granule Doubleword ipa value = with_word m granule (ipa % 4096 / 8) value

-- The levels of translation tables: the size of an entry, and the index of the entry that covers an address. RMM 1.0,
-- RTT level: level 3 has pages, level 0 is the topmost.
use Rattle.std.specs.Prelude.{ℕ, ◌/◌, ◌%◌, ◌^◌, ◌==◌, if◌then◌else◌}

-- the number of bytes that an entry of a level covers: 4 KiB, 2 MiB, 1 GiB or 512 GiB
unfoldable pub entry_size : ℕ → ℕ
entry_size level = if level == 3 then 2 ^ 12 else (if level == 2 then 2 ^ 21 else (if level == 1 then 2 ^ 30 else 2 ^ 39))

-- the index of the entry that covers an IPA, among the 512 entries of a table of the given level
unfoldable pub entry_index : ℕ → ℕ → ℕ
entry_index level ipa = ipa / entry_size level % 512

-- the index of the starting table that covers an IPA, given the starting level
unfoldable pub start_table_index : ℕ → ℕ → ℕ
start_table_index level ipa = ipa / entry_size level / 512

-- IPA widths, IPA granules, and the table entries that cover IPA granules. RMM 1.0, RTT and address space.
use Rattle.std.specs.Prelude.{ℕ, ◌-◌, ◌*◌, ◌/◌, ◌%◌, ◌^◌, ◌==◌, ◌&&◌, Bool, nat_le, nat_lt, if◌then◌else◌}

-- the number is an IPA width that a realm may have, in bits: 39 to 43 by this project's profile, and not by RMM 1.0
abbrev pub is_width : ℕ → Bool
is_width width = nat_le 39 width && nat_le width 43

-- the number of IPA granules in an address space of the given width
abbrev pub space_of : ℕ → ℕ
space_of width = 2 ^ (width - 12)

-- the number of IPA granules of the widest address space
abbrev pub widest_space : ℕ
widest_space = space_of 43

-- an IPA granule is in an address space of the given width
abbrev pub is_in_space : ℕ → ℕ → Bool
is_in_space ipa width = nat_lt ipa (space_of width)

-- an IPA granule is in the protected, lower half of an address space of the given width
abbrev pub is_protected_at : ℕ → ℕ → Bool
is_protected_at ipa width = nat_lt ipa (2 ^ (width - 13))

-- the number of IPA granules that an entry of a level covers: 2^18 (1 GiB) at level 1, 2^9 (2 MiB) at level 2,
-- otherwise 1
abbrev pub covered_count : ℕ → ℕ
covered_count level = if level == 1 then 2 ^ 18 else (if level == 2 then 2 ^ 9 else 1)

-- an IPA granule, rounded down to the first one that the same entry of the given level covers
abbrev pub first_covered : ℕ → ℕ → ℕ
first_covered level ipa = ipa / covered_count level * covered_count level

-- the index, 0 to 511, of the table entry that covers the IPA granule at the given level
abbrev pub entry_index : ℕ → ℕ → ℕ
entry_index level ipa = ipa / covered_count level % 512

-- the number of IPA granules that the 512 entries of a table of the given level cover
abbrev pub served_count : ℕ → ℕ
served_count level = covered_count level * 512

-- the index of the starting table that covers the IPA granule; starting tables are at level 1
abbrev pub start_index : ℕ → ℕ
start_index ipa = ipa / served_count 1

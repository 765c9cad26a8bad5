-- The starting tables of a realm. RMM 1.0, Realm attributes: RTT base address, number of starting-level RTTs.
use Rattle.std.specs.Prelude.{◌≡◌, ℕ, ◌+◌, ◌-◌, ◌*◌, ◌^◌, List, true}
use Rattle.std.specs.List.{range_with_len}
use Rattle.granule_addr.specs.Ipa.{is_width, served_count, space_of, start_index}
use Rattle.granule_addr.specs.declared.width.Root.{Root}

-- the number of starting tables that an address space of the given width needs: 1, 2, 4, 8 or 16
abbrev pub start_count : ℕ → ℕ
start_count width = 2 ^ (width - 39)

-- the number of IPA granules that the starting tables cover, for an address space of the given width
abbrev pub served_space : ℕ → ℕ
served_space width = start_count width * served_count 1

-- for an IPA width that a realm may have, the starting tables cover the whole address space, and no more
abbrev pub ServesSpace : ℕ → Type 0
ServesSpace width = is_width width ≡ true → served_space width ≡ space_of width

-- the granules of a realm's starting tables: as many adjacent granules as the realm's IPA width needs
unfoldable pub starting_tables : Root → List ℕ
starting_tables root = range_with_len root.first (start_count root.width)

-- the granule of the starting table that covers an IPA granule
abbrev pub start_table : Root → ℕ → ℕ
start_table root ipa = root.first + start_index ipa

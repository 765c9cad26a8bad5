-- The 64-bit word that encodes a table entry, and the entry to which a word is decoded. RMM 1.0, RTT entry; the layout
-- of the bits is this profile's own.
use Rattle.std.specs.Prelude.{◌≡◌, ℕ, ◌+◌, ◌*◌, ◌/◌, ◌%◌, ◌<◌, ◌==◌, Option, Some, None, if◌then◌else◌}
use Rattle.realm_model.specs.declared.states.EntryState.{EntryState}
use Rattle.realm_model.specs.declared.states.EntryState.TheVariants.{Unassigned, Assigned, Table}
use Rattle.realm_model.specs.declared.states.Ripas.{Ripas}
use Rattle.realm_model.specs.declared.states.Ripas.TheVariants.{Empty, Ram, Destroyed}
use Rattle.realm_model.specs.Rows.{Row, unassigned, assigned, table}

abbrev pub kind_bits : EntryState → ℕ
kind_bits Unassigned = 0
kind_bits Assigned = 1
kind_bits Table = 2

abbrev pub ripas_bits : Ripas → ℕ
ripas_bits Empty = 0
ripas_bits Ram = 1
ripas_bits Destroyed = 2

-- the bits of a granule's address, which is its number times 4,096; 0 if there is no granule
abbrev pub address_bits : Option ℕ → ℕ
address_bits None = 0
address_bits (Some granule) = granule * 4096

-- The word that encodes an entry: bits 0 and 1 are the kind, bits 2 and 3 the RIPAS, and bits 12 to 47 the granule's
-- address. All other bits are 0.
abbrev pub entry_word : Row → ℕ
entry_word row = kind_bits row.state + ripas_bits row.ripas * 4 + address_bits row.granule

-- An entry can be encoded: an UNASSIGNED entry has no granule, any other entry has a granule below 4,096, and a TABLE
-- entry has RIPAS EMPTY.
abbrev pub IsEncodable : EntryState → Ripas → Option ℕ → Type 0
IsEncodable Unassigned ripas granule = granule ≡ None
IsEncodable Assigned ripas None = ⊥
IsEncodable Assigned ripas (Some granule) = granule < 4096
IsEncodable Table ripas None = ⊥
IsEncodable Table ripas (Some granule) = (granule < 4096) × (ripas ≡ Empty)

abbrev pub IsEntry : Row → Type 0
IsEntry row = IsEncodable row.state row.ripas row.granule

-- ---- the entry of a word

-- the state that bits 0 and 1 of a word encode; the unused value 3 counts as UNASSIGNED
abbrev pub kind_of : ℕ → EntryState
kind_of bits = if bits == 1 then Assigned else (if bits == 2 then Table else Unassigned)

abbrev pub ripas_of : ℕ → Ripas
ripas_of bits = if bits == 1 then Ram else (if bits == 2 then Destroyed else Empty)

-- the entry of the given kind; an UNASSIGNED or ASSIGNED entry has the given RIPAS, and an ASSIGNED or TABLE entry the
-- given granule
abbrev pub decoded : EntryState → Ripas → ℕ → Row
decoded Unassigned ripas granule = unassigned ripas
decoded Assigned ripas granule = assigned ripas granule
decoded Table ripas granule = table granule

-- The entry to which a word is decoded; each word is decoded to some entry.
abbrev pub entry_of : ℕ → Row
entry_of word = decoded (kind_of (word % 4)) (ripas_of (word / 4 % 4)) (word / 4096 % 4096)

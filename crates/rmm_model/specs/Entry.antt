-- The entries of translation tables, and the words that encode them. RMM 1.0, RTT entry; the bits of a word are this
-- RMM's own.
use Rattle.std.specs.Prelude.{ℕ, ◌+◌, ◌*◌, ◌/◌, ◌%◌, ◌^◌, ◌==◌, ◌&&◌, ◌||◌, Bool, true, false, not, Option, Some, None, if◌then◌else◌}
use Rattle.rmm_model.specs.Level.{entry_size}
use Rattle.rmm_model.specs.declared.entry.Changeable.{Changeable}
use Rattle.rmm_model.specs.declared.entry.RmmRttEntry.{RmmRttEntry}
use Rattle.rmm_model.specs.declared.entry.RmmRttEntry.TheVariants.{Unassigned, Assigned, Table, UnassignedNs, AssignedNs}
use Rattle.rmm_model.specs.declared.entry.RmmRipas.{RmmRipas}
use Rattle.rmm_model.specs.declared.entry.RmmRipas.TheVariants.{Empty, Ram, Destroyed}

-- the encoding of a RIPAS as an RmiRipas
abbrev pub ripas_code : RmmRipas → ℕ
ripas_code Empty = 0
ripas_code Ram = 1
ripas_code Destroyed = 2

-- the address or descriptor of a live entry; 0 for any other entry
abbrev pub descriptor_of : RmmRttEntry → ℕ
descriptor_of (Assigned ripas address) = address
descriptor_of (Table address) = address
descriptor_of (AssignedNs descriptor) = descriptor
descriptor_of (Unassigned ripas) = 0
descriptor_of UnassignedNs = 0

-- ---- words

-- a word that repeats one byte eight times
abbrev pub repeated : ℕ → ℕ
repeated byte = byte * 0x0101010101010101

-- the word that encodes an entry, without its descriptor: bits 63:56 have the entry's kind and RIPAS
abbrev pub kind_word : RmmRttEntry → ℕ
kind_word (Unassigned ripas) = repeated (ripas_code ripas)
kind_word UnassignedNs = repeated 3
kind_word (Table address) = 4 * 2 ^ 56
kind_word (AssignedNs descriptor) = 5 * 2 ^ 56
kind_word (Assigned ripas address) = (6 + ripas_code ripas) * 2 ^ 56

-- The word that encodes an entry. A live entry has its descriptor in bits 47:0.
unfoldable pub entry_word : RmmRttEntry → ℕ
entry_word entry = kind_word entry + descriptor_of entry % 2 ^ 48

-- the entry of the kind that a number denotes; a live entry has the given descriptor
abbrev pub entry_at_kind : ℕ → ℕ → RmmRttEntry
entry_at_kind kind descriptor =
    if kind == 1 then Unassigned Ram else
    (if kind == 2 then Unassigned Destroyed else
    (if kind == 3 then UnassignedNs else
    (if kind == 4 then Table descriptor else
    (if kind == 5 then AssignedNs descriptor else
    (if kind == 6 then Assigned Empty descriptor else
    (if kind == 7 then Assigned Ram descriptor else
    (if kind == 8 then Assigned Destroyed descriptor else Unassigned Empty)))))))

-- The entry that a word encodes. Each word encodes some entry.
unfoldable pub entry_of : ℕ → RmmRttEntry
entry_of word = entry_at_kind (word / 2 ^ 56) (word % 2 ^ 48)

-- ---- kinds

-- the entry leads to a page, a block or a table
abbrev pub is_live : RmmRttEntry → Bool
is_live (Unassigned ripas) = false
is_live UnassignedNs = false
is_live _ = true

abbrev pub is_unassigned : RmmRttEntry → Bool
is_unassigned (Unassigned ripas) = true
is_unassigned _ = false

abbrev pub is_unassigned_ns : RmmRttEntry → Bool
is_unassigned_ns UnassignedNs = true
is_unassigned_ns _ = false

abbrev pub is_assigned_ns : RmmRttEntry → Bool
is_assigned_ns (AssignedNs descriptor) = true
is_assigned_ns _ = false

abbrev pub is_table : RmmRttEntry → Bool
is_table (Table address) = true
is_table _ = false

-- the entry leads to a page or a block
abbrev pub is_mapping : RmmRttEntry → Bool
is_mapping (Assigned ripas address) = true
is_mapping (AssignedNs descriptor) = true
is_mapping _ = false

-- ---- RIPAS

-- a RIPAS is RAM
abbrev pub is_ram : RmmRipas → Bool
is_ram Ram = true
is_ram _ = false

-- a RIPAS is DESTROYED
abbrev pub is_destroyed : RmmRipas → Bool
is_destroyed Destroyed = true
is_destroyed _ = false

-- a command changes the RIPAS of an entry, given the kinds of entries that the command changes
abbrev pub can_change : Changeable → RmmRttEntry → Bool
can_change changeable (Unassigned ripas) = changeable.destroyed || not (is_destroyed ripas)
can_change changeable (Assigned ripas address) = changeable.assigned && (changeable.destroyed || not (is_destroyed ripas))
can_change changeable _ = false

-- an UNASSIGNED or ASSIGNED entry with the given RIPAS in place of its own; any other entry unchanged
abbrev pub entry_with_ripas : RmmRipas → RmmRttEntry → RmmRttEntry
entry_with_ripas ripas (Unassigned old) = Unassigned ripas
entry_with_ripas ripas (Assigned old address) = Assigned ripas address
entry_with_ripas ripas entry = entry

-- ---- outputs of RMI_RTT_READ_ENTRY

-- the encoding of an entry's state as an RmiRttEntryState
abbrev pub state_code : RmmRttEntry → ℕ
state_code (Unassigned ripas) = 0
state_code UnassignedNs = 0
state_code (Assigned ripas address) = 1
state_code (AssignedNs descriptor) = 1
state_code (Table address) = 2

-- the RIPAS of an UNASSIGNED or ASSIGNED entry, encoded as an RmiRipas; 0 for any other entry
abbrev pub shown_ripas : RmmRttEntry → ℕ
shown_ripas (Unassigned ripas) = ripas_code ripas
shown_ripas (Assigned ripas address) = ripas_code ripas
shown_ripas _ = 0

-- ---- children

-- Child k of an entry: entry k of the table that RMI_RTT_CREATE puts below the entry. The table has the given level.
-- The children of a mapping lead to consecutive memory. A child of any other entry equals the entry.
abbrev pub child_entry : RmmRttEntry → ℕ → ℕ → RmmRttEntry
child_entry (Assigned ripas address) level k = Assigned ripas (address + k * entry_size level)
child_entry (AssignedNs descriptor) level k = AssignedNs (descriptor + k * entry_size level)
child_entry entry level k = entry

-- the difference between the descriptors of adjacent children of an entry, in a table of the given level
abbrev pub child_step : RmmRttEntry → ℕ → ℕ
child_step (Assigned ripas address) level = entry_size level
child_step (AssignedNs descriptor) level = entry_size level
child_step entry level = 0

-- the byte that fills the table of an entry's children, if the entry is UNASSIGNED or UNASSIGNED_NS
abbrev pub repeated_byte : RmmRttEntry → Option ℕ
repeated_byte (Unassigned ripas) = Some (ripas_code ripas)
repeated_byte UnassignedNs = Some 3
repeated_byte _ = None

-- the RIPAS of an UNASSIGNED or ASSIGNED entry; EMPTY for any other entry
abbrev pub ripas_in : RmmRttEntry → RmmRipas
ripas_in (Unassigned ripas) = ripas
ripas_in (Assigned ripas address) = ripas
ripas_in _ = Empty

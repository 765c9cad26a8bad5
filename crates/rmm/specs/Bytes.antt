-- The host's loads and stores of bytes within one granule. These accesses are this RMM's own, and no RMI calls.
use Rattle.std.specs.Prelude.{ℕ, ◌+◌, ◌-◌, ◌%◌, ◌&&◌, Bool, nat_le, List, length, slice_range, Option, Some, None, if◌then◌else◌}
use Rattle.page_arena.specs.Word.{with_bytes}
use Rattle.rmm_model.specs.Host.{is_host_page}
use Rattle.rmm_model.specs.Machine.{Machine, page_in, number_of, with_page}

-- the host may access the given number of bytes from an address on, all in one granule
abbrev pub can_access_bytes : Machine → ℕ → ℕ → Bool
can_access_bytes m address count = nat_le count (4096 - address % 4096) && is_host_page m address

-- the bytes of the granule in which an address lies
abbrev pub page_around : Machine → ℕ → List ℕ
page_around m address = page_in m (number_of m address)

-- the bytes that a load returns, or none if it faults
abbrev pub loaded_bytes : Machine → ℕ → ℕ → Option (List ℕ)
loaded_bytes m address count =
    if can_access_bytes m address count then Some (slice_range (page_around m address) (address % 4096) (address % 4096 + count)) else None

-- the machine after a store of bytes; unchanged if the store faults
abbrev pub after_store_bytes : Machine → ℕ → List ℕ → Machine
after_store_bytes m address bytes =
    if can_access_bytes m address (length bytes) then with_page m (number_of m address) (with_bytes (page_around m address) (address % 4096) bytes) else m

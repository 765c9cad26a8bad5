-- The host's loads, stores and fills of UNDELEGATED granules. These accesses are this RMM's own, and are not RMI calls.
use Rattle.std.specs.Prelude.{ℕ, ◌/◌, ◌%◌, ◌==◌, ◌&&◌, Bool, Option, Some, None, if◌then◌else◌}
use Rattle.granule_addr.specs.Page.{page_of}
use Rattle.page_arena.specs.Word.{word_of_page}
use Rattle.rmm_model.specs.declared.granule.RmmGranuleState.{RmmGranuleState}
use Rattle.rmm_model.specs.Machine.{Machine, page_in, is_aligned, is_inside, number_of, state_at, with_page, with_word}
use Rattle.rmm_model.specs.Command.Operand.{is_host_s}

-- an address is in a page of the host
abbrev pub is_host_page : Machine → ℕ → Bool
is_host_page m address = is_inside m address && is_host_s m address

-- the host may read and write the eight bytes at an address
abbrev pub can_access : Machine → ℕ → Bool
can_access m address = address % 8 == 0 && is_host_page m address

-- the word that a load returns, or `None` if the load faults
abbrev pub loaded : Machine → ℕ → Option ℕ
loaded m address = if can_access m address then Some (word_of_page (page_in m (number_of m address)) (address % 4096 / 8)) else None

-- the machine after the host stores a word at an address, if the host may access the eight bytes there
abbrev pub after_store : Machine → ℕ → ℕ → Machine
after_store m address word = if can_access m address then with_word m (number_of m address) (address % 4096 / 8) word else m

-- the host may fill the page at an address
abbrev pub can_fill : Machine → ℕ → Bool
can_fill m address = is_aligned address && is_host_page m address

-- the state of the granule that begins at an address, or `None` if no granule begins there
abbrev pub state_shown : Machine → ℕ → Option RmmGranuleState
state_shown m address = if is_aligned address && is_inside m address then Some (state_at m address) else None

-- the machine after the host sets all bytes of a page to one value, if the host may fill the page
abbrev pub after_fill : Machine → ℕ → ℕ → Machine
after_fill m address value = if can_fill m address then with_page m (number_of m address) (page_of value) else m

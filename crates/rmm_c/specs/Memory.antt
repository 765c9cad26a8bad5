-- The host's access to bytes of one granule through a C handle, and the machine after the host's stores. A closed
-- handle has no memory.
use Rattle.std.specs.Prelude.{ℕ, Bool, false, List, length, Option, unwrap_or, option_map}
use Rattle.rmm.specs.Bytes.{can_access_bytes, after_store_bytes}
use Rattle.rmm_model.specs.Machine.{Machine}

-- the host may access a number of bytes from an address on, all in one granule
abbrev pub can_access_on : ℕ → ℕ → Option Machine → Bool
can_access_on address count m = unwrap_or (option_map (λ m. can_access_bytes m address count) m) false

-- the machine after the host stores bytes at an address; unchanged if the host may not access these bytes
abbrev pub after_store_on : ℕ → List ℕ → Option Machine → Option Machine
after_store_on address bytes m = option_map (λ m. after_store_bytes m address bytes) m

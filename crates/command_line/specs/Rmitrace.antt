-- Membership in a set of names that a command line of `rmitrace` gives.
use Rattle.std.specs.Prelude.{ℕ, Bool, false, slice_get, unwrap_or}
use Rattle.command_line.specs.declared.rmitrace.NameSet.{NameSet}

-- the set has the name with this index in the table of names of `rmm_trace`
abbrev pub is_name_in : NameSet → ℕ → Bool
is_name_in set place = unwrap_or (slice_get set.places place) false

-- The checks and effects of commands on single granules: delegation, undelegation, and the host's writes and reads.
use Rattle.std.specs.Prelude.{ℕ, [], ◌∷◌, Ok}
use Rattle.realm_model.specs.declared.states.GranuleState.TheVariants.{Undelegated}
use Rattle.granule_addr.specs.Page.{page_of}
use Rattle.realm_model.specs.Machine.{Seen, left}
use Rattle.realm_model.specs.Update.{Outcome, Put}
use Rattle.realm_model.specs.Command.Check.{check, error_input, is_undelegated, is_delegated}

-- An UNDELEGATED granule becomes DELEGATED and zero. RMM 1.0, RMI_GRANULE_DELEGATE.
abbrev pub granule_delegate : Seen → Outcome
granule_delegate g = check (is_undelegated g) error_input (Ok (Put g.number left ∷ []))

-- A DELEGATED granule becomes UNDELEGATED. RMM 1.0, RMI_GRANULE_UNDELEGATE.
abbrev pub granule_undelegate : Seen → Outcome
granule_undelegate g = check (is_delegated g) error_input (Ok (Put g.number (record g.cell { state = Undelegated }) ∷ []))

-- The host writes a value to every byte of an UNDELEGATED granule. This profile's own.
abbrev pub host_fill : Seen → ℕ → Outcome
host_fill g value = check (is_undelegated g) error_input (Ok (Put g.number (record g.cell { bytes = page_of value }) ∷ []))

-- The host reads an UNDELEGATED granule, and nothing changes. This profile's own.
abbrev pub host_peek : Seen → Outcome
host_peek g = check (is_undelegated g) error_input (Ok [])

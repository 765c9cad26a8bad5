-- The command RMI_GRANULE_DELEGATE: its checks, its answer and its effect.
use Rattle.std.specs.Prelude.{ℕ, not, [], ◌∷◌, ◌++◌}
use Rattle.rmm_model.specs.declared.condition.Condition.TheVariants.{GranAlign, GranBound, GranState, GranGpt}
use Rattle.rmm_model.specs.declared.granule.RmmGranuleState.TheVariants.{Delegated}
use Rattle.rmm_model.specs.Check.{Command, check, success, error_input}
use Rattle.rmm_model.specs.Granule.{is_undelegated}
use Rattle.rmm_model.specs.Machine.{Machine, number_of, is_secure, state_at, with_blank}
use Rattle.rmm_model.specs.Command.Operand.{address_checks}

-- An UNDELEGATED granule becomes DELEGATED, and its contents are wiped. RMM 1.0, RMI_GRANULE_DELEGATE.
unfoldable pub granule_delegate : ℕ → Machine → Command
granule_delegate address m = record {
  checks = address_checks GranAlign GranBound m address
      ++ check GranState (GranBound ∷ []) (not (is_undelegated (state_at m address))) error_input
      ∷ check GranGpt (GranBound ∷ []) (is_secure m address) error_input ∷ [];
  answer = success;
  machine = with_blank m (number_of m address) Delegated;
}

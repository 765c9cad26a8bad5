-- The command RMI_GRANULE_UNDELEGATE: its checks, its answer and its effect.
use Rattle.std.specs.Prelude.{ℕ}
use Rattle.rmm_model.specs.declared.condition.Condition.TheVariants.{GranAlign, GranBound, GranState}
use Rattle.rmm_model.specs.declared.granule.RmmGranuleState.TheVariants.{Undelegated}
use Rattle.rmm_model.specs.Check.{Command, success}
use Rattle.rmm_model.specs.Machine.{Machine, number_of, with_blank}
use Rattle.rmm_model.specs.Command.Operand.{delegated_checks}

-- A DELEGATED granule becomes UNDELEGATED, and its contents are wiped. RMM 1.0, RMI_GRANULE_UNDELEGATE.
unfoldable pub granule_undelegate : ℕ → Machine → Command
granule_undelegate address m = record {
  checks = delegated_checks GranAlign GranBound GranState m address;
  answer = success;
  machine = with_blank m (number_of m address) Undelegated;
}

-- The command RMI_REALM_ACTIVATE: its checks, its answer and its effect.
use Rattle.std.specs.Prelude.{ℕ, ◌++◌}
use Rattle.rmm_model.specs.declared.realm.RmmRealmState.TheVariants.{Active}
use Rattle.rmm_model.specs.Check.{Command, success}
use Rattle.rmm_model.specs.Machine.{Machine, number_of, with_realm}
use Rattle.rmm_model.specs.Command.Operand.{rd_checks, realm_at, new_checks}

-- A NEW realm becomes ACTIVE. RMM 1.0, RMI_REALM_ACTIVATE.
unfoldable pub realm_activate : ℕ → Machine → Command
realm_activate rd m = record {
  checks = rd_checks m rd ++ new_checks (realm_at m rd);
  answer = success;
  machine = with_realm m (number_of m rd) (record (realm_at m rd) { state = Active });
}

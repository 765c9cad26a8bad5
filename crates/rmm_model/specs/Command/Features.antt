-- The command RMI_FEATURES: its checks and its answer.
use Rattle.std.specs.Prelude.{ℕ, []}
use Rattle.rmi_abi.specs.Features.{feature_register}
use Rattle.rmm_model.specs.Check.{Command, success}
use Rattle.rmm_model.specs.Machine.{Machine}

-- The value of a feature register is returned. RMM 1.0, RMI_FEATURES.
unfoldable pub features : ℕ → Machine → Command
features index m = record {
  checks = [];
  answer = record success { x1 = feature_register m.settings index };
  machine = m;
}

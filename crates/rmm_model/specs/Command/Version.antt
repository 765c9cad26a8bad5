-- The command RMI_VERSION: its checks and its answer.
use Rattle.std.specs.Prelude.{ℕ, ◌==◌, not, [], ◌∷◌}
use Rattle.rmi_abi.specs.declared.registers.SmcResult.{SmcResult}
use Rattle.rmi_abi.specs.declared.word.Word.{Word}
use Rattle.rmi_abi.specs.declared.word.Word.TheVariants.{Success, ErrorInput}
use Rattle.rmm_model.specs.declared.condition.Condition.TheVariants.{Version}
use Rattle.rmm_model.specs.Check.{Command, check}
use Rattle.rmm_model.specs.Machine.{Machine}

-- the answer with a result word, and with 1.0 as both the lowest and the highest version
abbrev pub versions : Word → SmcResult
versions word = record { word = word; x1 = 0x10000; x2 = 0x10000; x3 = 0; x4 = 0 }

-- The supported versions are returned, with RMI_SUCCESS if version 1.0 is requested, otherwise RMI_ERROR_INPUT.
-- RMM 1.0, RMI_VERSION.
unfoldable pub version : ℕ → Machine → Command
version requested m = record {
  checks = check Version [] (not (requested == 0x10000)) (versions ErrorInput) ∷ [];
  answer = versions Success;
  machine = m;
}

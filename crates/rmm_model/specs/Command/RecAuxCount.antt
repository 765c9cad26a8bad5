-- The command RMI_REC_AUX_COUNT: its checks and its answer.
use Rattle.std.specs.Prelude.{ℕ}
use Rattle.rmm_model.specs.Check.{Command, success}
use Rattle.rmm_model.specs.Machine.{Machine}
use Rattle.rmm_model.specs.Command.Operand.{rd_checks}

-- The number of auxiliary granules that each REC of a realm needs is returned. RMM 1.0, RMI_REC_AUX_COUNT.
unfoldable pub rec_aux_count : ℕ → Machine → Command
rec_aux_count rd m = record {
  checks = rd_checks m rd;
  answer = record success { x1 = m.settings.aux };
  machine = m;
}

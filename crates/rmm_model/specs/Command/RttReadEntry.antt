-- The command RMI_RTT_READ_ENTRY: its checks and its answer.
use Rattle.std.specs.Prelude.{ℕ, ◌++◌}
use Rattle.rmi_abi.specs.declared.word.Word.TheVariants.{Success}
use Rattle.rmm_model.specs.Check.{Command}
use Rattle.rmm_model.specs.Entry.{state_code, descriptor_of, shown_ripas}
use Rattle.rmm_model.specs.Machine.{Machine}
use Rattle.rmm_model.specs.Walk.{entry_at, walk}
use Rattle.rmm_model.specs.Command.Operand.{rd_checks, realm_at, ipa_checks}

-- The entry at which a walk towards a level ends is returned. RMM 1.0, RMI_RTT_READ_ENTRY.
unfoldable pub rtt_read_entry : ℕ → ℕ → ℕ → Machine → Command
rtt_read_entry rd ipa level m =
    let realm = realm_at m rd in
    let found = walk m realm ipa level in
    let entry = entry_at m found ipa in
    record {
      checks = rd_checks m rd ++ ipa_checks realm realm.start_level level 0 ipa;
      answer = record { word = Success; x1 = found.level; x2 = state_code entry; x3 = descriptor_of entry; x4 = shown_ripas entry };
      machine = m;
    }

-- The command RMI_RTT_UNMAP_UNPROTECTED: its checks, its answer and its effect.
use Rattle.std.specs.Prelude.{ℕ, List, [], ◌++◌}
use Rattle.rmi_abi.specs.declared.registers.SmcResult.{SmcResult}
use Rattle.rmi_abi.specs.declared.word.Word.TheVariants.{ErrorRtt}
use Rattle.rmm_model.specs.declared.entry.RmmRttEntry.TheVariants.{UnassignedNs}
use Rattle.rmm_model.specs.declared.realm.RttWalk.{RttWalk as Walked}
use Rattle.rmm_model.specs.Check.{Command, Check, success}
use Rattle.rmm_model.specs.Entry.{is_assigned_ns}
use Rattle.rmm_model.specs.Machine.{Machine}
use Rattle.rmm_model.specs.Walk.{entry_at, with_entry, walk, top}
use Rattle.rmm_model.specs.Command.Operand.{rd_checks, realm_at, unprotected_checks, entry_checks}

-- RMI_ERROR_RTT with the level of a table, and in X1 the IPA of the next live entry, or of the table's end
abbrev pub error_rtt_next : ℕ → ℕ → SmcResult
error_rtt_next top level = record { word = ErrorRtt level; x1 = top; x2 = 0; x3 = 0; x4 = 0 }

-- checks that a walk reached a level, and that the entry there is ASSIGNED_NS
abbrev pub mapped_checks : Machine → Walked → ℕ → ℕ → List Check
mapped_checks m found ipa level = entry_checks [] found level (is_assigned_ns (entry_at m found ipa)) (error_rtt_next (top m found ipa))

-- A mapping of the host's memory is removed. RMM 1.0, RMI_RTT_UNMAP_UNPROTECTED.
unfoldable pub rtt_unmap_unprotected : ℕ → ℕ → ℕ → Machine → Command
rtt_unmap_unprotected rd ipa level m =
    let realm = realm_at m rd in
    let found = walk m realm ipa level in
    let after = with_entry m found ipa UnassignedNs in
    record {
      checks = rd_checks m rd ++ unprotected_checks m.settings realm level ipa
          ++ mapped_checks m found ipa level;
      answer = record success { x1 = top after found ipa };
      machine = after;
    }

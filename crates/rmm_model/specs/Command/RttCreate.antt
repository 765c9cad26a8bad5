-- The command RMI_RTT_CREATE: its checks, its answer and its effect.
use Rattle.std.specs.Prelude.{ℕ, ◌+◌, ◌-◌, not, [], ◌++◌}
use Rattle.rmm_model.specs.declared.condition.Condition.TheVariants.{RttAlign, RttBound, RttState}
use Rattle.rmm_model.specs.declared.entry.RmmRttEntry.TheVariants.{Table}
use Rattle.rmm_model.specs.declared.granule.RmmGranuleState.TheVariants.{Rtt}
use Rattle.rmm_model.specs.Check.{Command, success, error_rtt}
use Rattle.rmm_model.specs.Entry.{is_table}
use Rattle.rmm_model.specs.Granule.{of_realm}
use Rattle.rmm_model.specs.Machine.{Machine, number_of, with_granule, with_page}
use Rattle.rmm_model.specs.Table.{children_page}
use Rattle.rmm_model.specs.Walk.{entry_at, with_entry, walk}
use Rattle.rmm_model.specs.Command.Operand.{delegated_checks, rd_checks, realm_at, ipa_checks, entry_checks}

-- A DELEGATED granule becomes a table that replaces an entry of the level above. The entries of the table are the
-- children of that entry. RMM 1.0, RMI_RTT_CREATE.
unfoldable pub rtt_create : ℕ → ℕ → ℕ → ℕ → Machine → Command
rtt_create rd rtt ipa level m =
    let realm = realm_at m rd in
    let found = walk m realm ipa (level - 1) in
    let parent = entry_at m found ipa in
    let table = number_of m rtt in
    record {
      checks = delegated_checks RttAlign RttBound RttState m rtt
          ++ rd_checks m rd ++ ipa_checks realm (realm.start_level + 1) level 1 ipa
          ++ entry_checks [] found (level - 1) (not (is_table parent)) error_rtt;
      answer = success;
      machine = with_entry (with_page (with_granule m table (of_realm (number_of m rd) Rtt)) table (children_page parent level)) found ipa (Table rtt);
    }

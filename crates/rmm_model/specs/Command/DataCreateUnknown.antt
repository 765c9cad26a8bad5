-- The command RMI_DATA_CREATE_UNKNOWN: its checks, its answer and its effect.
use Rattle.std.specs.Prelude.{ℕ, [], ◌++◌}
use Rattle.granule_addr.specs.Page.{zero_page}
use Rattle.rmm_model.specs.declared.condition.Condition.TheVariants.{DataAlign, DataBound, DataState}
use Rattle.rmm_model.specs.declared.entry.RmmRttEntry.TheVariants.{Assigned}
use Rattle.rmm_model.specs.declared.granule.RmmGranuleState.TheVariants.{Data}
use Rattle.rmm_model.specs.Check.{Command, success, error_rtt}
use Rattle.rmm_model.specs.Entry.{is_unassigned, ripas_in}
use Rattle.rmm_model.specs.Granule.{of_realm}
use Rattle.rmm_model.specs.Machine.{Machine, number_of, with_granule, with_page}
use Rattle.rmm_model.specs.Walk.{entry_at, with_entry, walk}
use Rattle.rmm_model.specs.Command.Operand.{delegated_checks, rd_checks, realm_at, page_checks, entry_checks}

-- A DELEGATED granule becomes a page of zeros in a realm, and the RIPAS of the page's IPA stays as it was. RMM 1.0,
-- RMI_DATA_CREATE_UNKNOWN.
unfoldable pub data_create_unknown : ℕ → ℕ → ℕ → Machine → Command
data_create_unknown rd page ipa m =
    let realm = realm_at m rd in
    let found = walk m realm ipa 3 in
    let entry = entry_at m found ipa in
    let granule = number_of m page in
    record {
      checks = delegated_checks DataAlign DataBound DataState m page
          ++ rd_checks m rd ++ page_checks realm ipa
          ++ entry_checks [] found 3 (is_unassigned entry) error_rtt;
      answer = success;
      machine = with_entry (with_page (with_granule m granule (of_realm (number_of m rd) Data)) granule zero_page) found ipa (Assigned (ripas_in entry) page);
    }

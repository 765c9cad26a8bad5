-- The command RMI_DATA_DESTROY: its checks, its answer and its effect.
use Rattle.std.specs.Prelude.{ℕ, [], ◌++◌, is_some, unwrap_or}
use Rattle.rmi_abi.specs.declared.word.Word.TheVariants.{Success}
use Rattle.rmm_model.specs.declared.entry.RmmRttEntry.TheVariants.{Unassigned}
use Rattle.rmm_model.specs.declared.entry.RmmRipas.{RmmRipas}
use Rattle.rmm_model.specs.declared.entry.RmmRipas.TheVariants.{Empty, Destroyed}
use Rattle.rmm_model.specs.declared.granule.RmmGranuleState.TheVariants.{Delegated}
use Rattle.rmm_model.specs.Check.{Command, error_rtt_top}
use Rattle.rmm_model.specs.Entry.{descriptor_of, ripas_in}
use Rattle.rmm_model.specs.Machine.{Machine, with_blank}
use Rattle.rmm_model.specs.Walk.{entry_at, with_entry, memory_below, walk, top}
use Rattle.rmm_model.specs.Command.Operand.{rd_checks, realm_at, page_checks, entry_checks}

-- the RIPAS that a destroyed page leaves: it stays EMPTY if it was EMPTY, and otherwise becomes DESTROYED
abbrev pub left_ripas : RmmRipas → RmmRipas
left_ripas Empty = Empty
left_ripas _ = Destroyed

-- A page of a realm is removed, and its granule becomes DELEGATED. RMM 1.0, RMI_DATA_DESTROY.
unfoldable pub data_destroy : ℕ → ℕ → Machine → Command
data_destroy rd ipa m =
    let realm = realm_at m rd in
    let found = walk m realm ipa 3 in
    let entry = entry_at m found ipa in
    let granule = unwrap_or (memory_below m entry) 0 in
    let after = with_blank (with_entry m found ipa (Unassigned (left_ripas (ripas_in entry)))) granule Delegated in
    record {
      checks = rd_checks m rd ++ page_checks realm ipa
          ++ entry_checks [] found 3 (is_some (memory_below m entry)) (error_rtt_top (top m found ipa));
      answer = record { word = Success; x1 = descriptor_of entry; x2 = top after found ipa; x3 = 0; x4 = 0 };
      machine = after;
    }

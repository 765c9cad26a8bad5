-- The command RMI_RTT_DESTROY: its checks, its answer and its effect.
use Rattle.std.specs.Prelude.{ℕ, ◌+◌, ◌-◌, [], ◌∷◌, ◌++◌, List, is_some, unwrap_or, if◌then◌else◌}
use Rattle.rmi_abi.specs.declared.word.Word.TheVariants.{Success}
use Rattle.rmm_model.specs.declared.condition.Condition.TheVariants.{RtteState, RttLive}
use Rattle.rmm_model.specs.declared.entry.RmmRttEntry.{RmmRttEntry}
use Rattle.rmm_model.specs.declared.entry.RmmRttEntry.TheVariants.{Unassigned, UnassignedNs}
use Rattle.rmm_model.specs.declared.entry.RmmRipas.TheVariants.{Destroyed}
use Rattle.rmm_model.specs.declared.granule.RmmGranuleState.TheVariants.{Delegated}
use Rattle.rmm_model.specs.declared.realm.RmmRealm.{RmmRealm}
use Rattle.rmm_model.specs.declared.realm.RttWalk.{RttWalk as Walked}
use Rattle.rmm_model.specs.Check.{Command, Check, check, error_rtt_top}
use Rattle.rmm_model.specs.Entry.{descriptor_of}
use Rattle.rmm_model.specs.Machine.{Machine, page_in, with_blank}
use Rattle.rmm_model.specs.Realm.{is_protected}
use Rattle.rmm_model.specs.Table.{has_live}
use Rattle.rmm_model.specs.Walk.{entry_at, with_entry, table_below, walk, top}
use Rattle.rmm_model.specs.Command.Operand.{rd_checks, realm_at, ipa_checks, entry_checks}

-- the entry that replaces a destroyed table: it is UNASSIGNED with RIPAS DESTROYED if the IPA is protected, and
-- otherwise UNASSIGNED_NS
abbrev pub left_entry : RmmRealm → ℕ → RmmRttEntry
left_entry realm ipa = if is_protected realm ipa then Unassigned Destroyed else UnassignedNs

-- checks that a walk reached the parent entry of a table without live entries
abbrev pub unused_checks : Machine → Walked → RmmRttEntry → ℕ → ℕ → List Check
unused_checks m found parent ipa level =
    entry_checks [] found (level - 1) (is_some (table_below m parent)) (error_rtt_top (top m found ipa))
    ++ check RttLive (RtteState ∷ []) (has_live (page_in m (unwrap_or (table_below m parent) 0))) (error_rtt_top (top m found ipa) level) ∷ []

-- A table without live entries is removed, and its granule becomes DELEGATED. RMM 1.0, RMI_RTT_DESTROY.
unfoldable pub rtt_destroy : ℕ → ℕ → ℕ → Machine → Command
rtt_destroy rd ipa level m =
    let realm = realm_at m rd in
    let found = walk m realm ipa (level - 1) in
    let parent = entry_at m found ipa in
    let table = unwrap_or (table_below m parent) 0 in
    let after = with_blank (with_entry m found ipa (left_entry realm ipa)) table Delegated in
    record {
      checks = rd_checks m rd ++ ipa_checks realm (realm.start_level + 1) level 1 ipa
          ++ unused_checks m found parent ipa level;
      answer = record { word = Success; x1 = descriptor_of parent; x2 = top after found ipa; x3 = 0; x4 = 0 };
      machine = after;
    }

-- The command RMI_RTT_MAP_UNPROTECTED: its checks, its answer and its effect.
use Rattle.std.specs.Prelude.{ℕ, ◌*◌, ◌/◌, ◌%◌, ◌^◌, ◌==◌, ◌&&◌, ◌||◌, Bool, not, nat_lt, [], ◌∷◌, ◌++◌}
use Rattle.rmi_abi.specs.declared.settings.RmmSettings.{RmmSettings}
use Rattle.rmm_model.specs.declared.condition.Condition.TheVariants.{LevelBound, DescBound}
use Rattle.rmm_model.specs.declared.entry.RmmRttEntry.TheVariants.{AssignedNs}
use Rattle.rmm_model.specs.Check.{Command, check, success, error_input, error_rtt}
use Rattle.rmm_model.specs.Entry.{is_unassigned_ns}
use Rattle.rmm_model.specs.Level.{entry_size}
use Rattle.rmm_model.specs.Machine.{Machine}
use Rattle.rmm_model.specs.Walk.{entry_at, with_entry, walk}
use Rattle.rmm_model.specs.Command.Operand.{rd_checks, realm_at, is_multiple, unprotected_checks, entry_checks}

-- the field SH of a descriptor, bits 9:8, is valid: it is 0, or the settings let the host choose it and it is not 0b01
abbrev pub is_shareability : RmmSettings → ℕ → Bool
is_shareability s desc = desc / 2 ^ 8 % 4 == 0 || (s.takes_shareability && not (desc / 2 ^ 8 % 4 == 1))

-- the attributes of a descriptor are valid: its field MemAttr, in bits 4:2, is not 0b100, SH is valid, and bits 1:0, 5,
-- 11:10 and 63:48 are 0. S2AP, in bits 7:6, is the host's to choose
abbrev pub has_attributes : RmmSettings → ℕ → Bool
has_attributes s desc =
    nat_lt desc (2 ^ 48) && desc % 4 == 0 && not (desc / 4 % 8 == 4) && desc / 2 ^ 5 % 2 == 0 && is_shareability s desc && desc / 2 ^ 10 % 4 == 0

-- A descriptor is valid at a level: its attributes are valid, and its address is aligned to an entry of the level. The
-- address is in bits 47:12.
unfoldable pub is_descriptor : RmmSettings → ℕ → ℕ → Bool
is_descriptor s level desc = has_attributes s desc && is_multiple (desc / 4096 * 4096) (entry_size level)

-- The host's memory is mapped at an unprotected IPA. RMM 1.0, RMI_RTT_MAP_UNPROTECTED.
unfoldable pub rtt_map_unprotected : ℕ → ℕ → ℕ → ℕ → Machine → Command
rtt_map_unprotected rd ipa level desc m =
    let realm = realm_at m rd in
    let found = walk m realm ipa level in
    record {
      checks = rd_checks m rd ++ unprotected_checks m.settings realm level ipa
          ++ check DescBound (LevelBound ∷ []) (not (is_descriptor m.settings level desc)) error_input ∷ []
          ++ entry_checks [] found level (is_unassigned_ns (entry_at m found ipa)) error_rtt;
      answer = success;
      machine = with_entry m found ipa (AssignedNs desc);
    }

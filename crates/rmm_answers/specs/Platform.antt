-- The settings that a `platform` line of a trace gives, and the fresh machine that the line creates.
use Rattle.std.specs.Prelude.{ℕ, ◌+◌, ◌%◌, ◌&&◌, nat_le, Bool, false, if◌then◌else◌, List, [], ◌∷◌, replicate, Option, Some, None}
use Rattle.granule_addr.specs.Page.{zero_page}
use Rattle.rmi_abi.specs.declared.settings.Layout.TheVariants.{Rel0, Eac5}
use Rattle.rmi_abi.specs.declared.settings.RmmSettings.{RmmSettings}
use Rattle.rmi_abi.specs.Settings.{is_platform}
use Rattle.rmm_granules.specs.Inside.{platform_machine}
use Rattle.rmm_model.specs.Machine.{Machine}
use Rattle.rmm_trace.specs.declared.place.TheConstants.{ALL, ANY_RIPAS, AUX, BLOCK_LEVEL, BPS, CHANGE, CHECKED, DATA_FLAGS, DATA_RIPAS, DESC_SH, GIC, GIVEN, INIT_DESTROYED, LAYOUT, LIVE_TOP, LOOSE, LRS, MAX_RECS_ORDER, MEASURE_REC, NONE, PARAMS}
use Rattle.rmm_trace.specs.declared.place.TheConstants.{PSCI_ARGS, REL0, RUNNABLE, S2SZ, SECURE, VMID_BITS, WPS, ZERO}
use Rattle.rmm_trace.specs.declared.word.TraceWord.{TraceWord}
use Rattle.rmm_trace.specs.Access.{operand_at, after_name, is_name}

-- the number at the start of these words, modulo 256, or the default if there are no words
abbrev pub number_or : ℕ → List TraceWord → ℕ
number_or default [] = default
number_or default (w ∷ ws) = operand_at (w ∷ ws) 0 0 % 256

abbrev pub number_after : List TraceWord → ℕ → ℕ → ℕ
number_after ws name default = number_or default (after_name name ws)

abbrev pub is_first : ℕ → List TraceWord → Bool
is_first name [] = false
is_first name (w ∷ ws) = is_name name w.value

-- in a `platform` line, the setting `name` has the second of its values; `first` is the index of the first value in the
-- table of names
abbrev pub is_second : List TraceWord → ℕ → ℕ → Bool
is_second ws name first = is_first (first + 1) (after_name name ws)

-- the RMM settings read from the words of a `platform` line, with defaults for settings that the line does not give
unfoldable pub settings_in : List TraceWord → RmmSettings
settings_in ws = record {
  base = operand_at ws 0 0;
  secure_base = operand_at (after_name SECURE ws) 0 0;
  secure_count = operand_at (after_name SECURE ws) 1 0 % 65536;
  aux = number_after ws AUX 2;
  vmid_bits = number_after ws VMID_BITS 16;
  s2sz = number_after ws S2SZ 48;
  max_recs_order = number_after ws MAX_RECS_ORDER 4;
  block_level = number_after ws BLOCK_LEVEL 2;
  bps = number_after ws BPS 0;
  wps = number_after ws WPS 0;
  lrs = number_after ws LRS 0;
  layout = if is_second ws LAYOUT REL0 then Eac5 else Rel0;
  stops_at_destroyed = is_second ws INIT_DESTROYED CHANGE;
  measures_all_recs = is_second ws MEASURE_REC RUNNABLE;
  ignores_data_flags = is_second ws DATA_FLAGS CHECKED;
  data_needs_ram = is_second ws DATA_RIPAS ANY_RIPAS;
  aligns_live_top = is_second ws LIVE_TOP GIVEN;
  shows_target_alone = is_second ws PSCI_ARGS ALL;
  takes_shareability = is_second ws DESC_SH ZERO;
  checks_params = is_second ws PARAMS LOOSE;
  checks_gic = is_second ws GIC NONE;
}

-- a `platform` line gives 1 to 4,096 granules, and each of its settings is in its range
abbrev pub is_opened : List TraceWord → Bool
is_opened ws = nat_le 1 (operand_at ws 1 0) && nat_le (operand_at ws 1 0) 4096 && is_platform (settings_in ws)

-- The fresh machine of a `platform` line, whose granules are UNDELEGATED with bytes 0; none if the number of granules
-- or a setting is out of range.
unfoldable pub machine_of_platform : List TraceWord → Option Machine
machine_of_platform ws = if is_opened ws then Some (platform_machine (settings_in ws) (replicate (operand_at ws 1 0) zero_page)) else None

-- The valid ranges of the C interface's platform settings, and the machine of a handle that is opened with such
-- settings.
use Rattle.std.specs.Prelude.{◌==◌, ◌&&◌, Bool, nat_le, replicate, Option, Some, None, if◌then◌else◌}
use Rattle.granule_addr.specs.Page.{zero_page}
use Rattle.rmi_abi.specs.declared.settings.Layout.TheVariants.{Rel0, Eac5}
use Rattle.rmi_abi.specs.declared.settings.RmmSettings.{RmmSettings}
use Rattle.rmi_abi.specs.Settings.{is_platform}
use Rattle.rmm_model.specs.Machine.{Machine}
use Rattle.rmm_granules.specs.Inside.{platform_machine}
use Rattle.rmm_c.specs.declared.settings.PlatformSettings.{PlatformSettings}

-- each number of the C struct fits the field that holds it in the RMM's settings
abbrev pub fit : PlatformSettings → Bool
fit s =
    nat_le s.secure_count 65535 && nat_le s.aux 255 && nat_le s.vmid_bits 255 && nat_le s.s2sz 255 && nat_le s.max_recs_order 255
    && nat_le s.block_level 255 && nat_le s.bps 255 && nat_le s.wps 255 && nat_le s.lrs 255 && nat_le s.layout 1

-- the RMM's settings, with the numbers of the C struct
abbrev pub settings_of : PlatformSettings → RmmSettings
settings_of s = record {
  base = s.base;
  secure_base = s.secure_base;
  secure_count = s.secure_count;
  aux = s.aux;
  vmid_bits = s.vmid_bits;
  s2sz = s.s2sz;
  max_recs_order = s.max_recs_order;
  block_level = s.block_level;
  bps = s.bps;
  wps = s.wps;
  lrs = s.lrs;
  layout = if s.layout == 0 then Rel0 else Eac5;
  stops_at_destroyed = s.stops_at_destroyed;
  measures_all_recs = s.measures_all_recs;
  ignores_data_flags = s.ignores_data_flags;
  data_needs_ram = s.data_needs_ram;
  aligns_live_top = s.aligns_live_top;
  shows_target_alone = s.shows_target_alone;
  takes_shareability = s.takes_shareability;
  checks_params = s.checks_params;
  checks_gic = s.checks_gic;
}

-- the RMM's settings for a C struct; none if a setting is out of range
abbrev pub platform_of : PlatformSettings → Option RmmSettings
platform_of s = if fit s && is_platform (settings_of s) then Some (settings_of s) else None

-- The settings are valid for a machine, with 1 to 4,096 granules and each setting in its range.
abbrev pub is_machine : PlatformSettings → Bool
is_machine s = nat_le 1 s.granules && nat_le s.granules 4096 && (fit s && is_platform (settings_of s))

-- The machine of a newly opened handle, with all granules UNDELEGATED and all bytes 0.
abbrev pub opened_machine : PlatformSettings → Machine
opened_machine s = platform_machine (settings_of s) (replicate s.granules zero_page)

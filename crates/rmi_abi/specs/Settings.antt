-- The ranges of an RMM's settings, and the default settings.
use Rattle.std.specs.Prelude.{◌≡◌, ℕ, ◌%◌, ◌^◌, ◌<◌, ◌≤◌, ◌==◌, ◌&&◌, ◌||◌, Bool, false, nat_le, nat_lt}
use Rattle.rmi_abi.specs.declared.settings.Layout.{Layout}
use Rattle.rmi_abi.specs.declared.settings.Layout.TheVariants.{Rel0, Eac5}
use Rattle.rmi_abi.specs.declared.settings.RmmSettings.{RmmSettings}

-- `base` and `secure_base` are multiples of 4,096 below 2^47
abbrev pub has_addresses : RmmSettings → Bool
has_addresses s = nat_lt s.base (2 ^ 47) && s.base % 4096 == 0 && nat_lt s.secure_base (2 ^ 47) && s.secure_base % 4096 == 0

-- the numbers of auxiliary granules and VMID bits, the IPA width, MAX_RECS_ORDER and the block level are in their
-- ranges
abbrev pub has_sizes : RmmSettings → Bool
has_sizes s =
    nat_le s.aux 16 && (s.vmid_bits == 8 || s.vmid_bits == 16) && nat_le 32 s.s2sz && nat_le s.s2sz 48 && nat_le s.max_recs_order 15
    && (s.block_level == 1 || s.block_level == 2)

-- the greatest value that each of the fields NUM_BPS and NUM_WPS can hold in a layout
abbrev pub most_breakpoints : Layout → ℕ
most_breakpoints Rel0 = 63
most_breakpoints Eac5 = 15

-- the values of NUM_BPS, NUM_WPS and GICV3_NUM_LRS fit their fields of feature register 0
abbrev pub has_fields : RmmSettings → Bool
has_fields s = nat_le s.bps (most_breakpoints s.layout) && nat_le s.wps (most_breakpoints s.layout) && nat_le s.lrs 15

abbrev pub is_platform : RmmSettings → Bool
is_platform s = has_addresses s && has_sizes s && has_fields s

-- The settings are within the bounds that hold for every platform.
pub record IsPlatform (s : RmmSettings) : Type 0 where
  pub base : s.base < 2 ^ 47
  pub base_aligned : s.base % 4096 ≡ 0
  pub secure_aligned : s.secure_base % 4096 ≡ 0
  pub aux : s.aux ≤ 16
  pub vmids : s.vmid_bits ≤ 16
  pub narrowest : 32 ≤ s.s2sz
  pub widest : s.s2sz ≤ 48
  pub order : s.max_recs_order ≤ 15
  pub block : s.block_level ≤ 2
  pub bps : s.bps ≤ 63
  pub wps : s.wps ≤ 63
  pub lrs : s.lrs ≤ 15

-- The default of each setting: RMM 1.0-rel0, the widest addresses, and one choice where the standard leaves several.
-- The fields of the GIC are not checked.
abbrev pub default_settings : RmmSettings
default_settings = record {
  base = 0x80000000;
  secure_base = 0;
  secure_count = 0;
  aux = 2;
  vmid_bits = 16;
  s2sz = 48;
  max_recs_order = 4;
  block_level = 2;
  bps = 0;
  wps = 0;
  lrs = 0;
  layout = Rel0;
  stops_at_destroyed = false;
  measures_all_recs = false;
  ignores_data_flags = false;
  data_needs_ram = false;
  aligns_live_top = false;
  shows_target_alone = false;
  takes_shareability = false;
  checks_params = false;
  checks_gic = false;
}

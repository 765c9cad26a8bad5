-- The value of feature register 0 for given settings; all other feature registers are 0. RMM 1.0, RmiFeatureRegister0:
-- HASH_SHA_256 and HASH_SHA_512 are 1; LPA2, SVE and the PMU are 0.
use Rattle.std.specs.Prelude.{ℕ, ◌+◌, ◌*◌, ◌^◌, ◌==◌, if◌then◌else◌}
use Rattle.rmi_abi.specs.declared.settings.Layout.{Layout}
use Rattle.rmi_abi.specs.declared.settings.Layout.TheVariants.{Rel0, Eac5}
use Rattle.rmi_abi.specs.declared.settings.RmmSettings.{RmmSettings}

-- the sum of the fields of feature register 0, each shifted to its first bit: S2SZ, NUM_BPS, NUM_WPS, both hashes,
-- GICV3_NUM_LRS and MAX_RECS_ORDER
abbrev pub fields : Layout → RmmSettings → ℕ
fields Rel0 s = s.s2sz + s.bps * 2 ^ 14 + s.wps * 2 ^ 20 + (2 ^ 32 + 2 ^ 33) + s.lrs * 2 ^ 34 + s.max_recs_order * 2 ^ 38
fields Eac5 s = s.s2sz + s.bps * 2 ^ 14 + s.wps * 2 ^ 18 + (2 ^ 28 + 2 ^ 29) + s.lrs * 2 ^ 30 + s.max_recs_order * 2 ^ 34

-- The value of the feature register with this index. All but register 0 are 0.
unfoldable pub feature_register : RmmSettings → ℕ → ℕ
feature_register s index = if index == 0 then fields s.layout s else 0

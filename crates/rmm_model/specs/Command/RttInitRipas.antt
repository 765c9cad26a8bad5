-- The command RMI_RTT_INIT_RIPAS: its checks, its answer and its effect.
use Rattle.std.specs.Prelude.{ℕ, zero, suc, ◌+◌, ◌-◌, ◌*◌, not, false, List, [], ◌∷◌, ◌++◌}
use Rattle.rmi_abi.specs.declared.hash.HashAlgorithm.{HashAlgorithm}
use Rattle.rmi_abi.specs.declared.settings.RmmSettings.{RmmSettings}
use Rattle.rmm_model.specs.declared.measure.Extension.TheVariants.{Ripas as RipasExtension}
use Rattle.rmm_model.specs.Measure.{extended}
use Rattle.rmm_model.specs.declared.condition.Condition.TheVariants.{Size, BaseGranAlign, TopGranAlign, BaseBound, TopBound, RdState, RealmState}
use Rattle.rmm_model.specs.declared.entry.Changeable.{Changeable}
use Rattle.rmm_model.specs.declared.entry.RmmRipas.TheVariants.{Ram}
use Rattle.rmm_model.specs.declared.realm.RmmRealm.{RmmRealm}
use Rattle.rmm_model.specs.Check.{Command, Check, check, success, error_input}
use Rattle.rmm_model.specs.Level.{entry_size}
use Rattle.rmm_model.specs.Machine.{Machine, number_of, with_realm}
use Rattle.rmm_model.specs.Realm.{is_protected, with_rim}
use Rattle.rmm_model.specs.Walk.{walk}
use Rattle.rmm_model.specs.Command.Operand.{rd_checks, realm_at, is_multiple, new_checks}
use Rattle.rmm_model.specs.Command.RipasRange.{size_checks, progress_checks, change_count, with_ripas}

-- the kinds of entries that become RAM: they are UNASSIGNED, and may have RIPAS DESTROYED unless the settings exclude
-- it
abbrev pub init_changeable : RmmSettings → Changeable
init_changeable s = record { assigned = false; destroyed = not s.stops_at_destroyed }

-- checks that a range consists of pages in the protected half of a NEW realm
unfoldable pub range_checks : RmmRealm → ℕ → ℕ → List Check
range_checks realm base top =
    check BaseGranAlign [] (not (is_multiple base 4096)) error_input
    ∷ check TopGranAlign [] (not (is_multiple top 4096)) error_input
    ∷ check BaseBound (RdState ∷ []) (not (is_protected realm base)) error_input
    ∷ check TopBound (RdState ∷ Size ∷ []) (not (is_protected realm (top - 4096))) error_input
    ∷ new_checks realm

-- the RIM, extended once for each of k adjacent entries, from IPA `base` on, that become RAM
unfoldable pub rim_with_ripas : HashAlgorithm → List ℕ → ℕ → ℕ → ℕ → List ℕ
rim_with_ripas hash rim size base zero = rim
rim_with_ripas hash rim size base (suc k) = extended hash (rim_with_ripas hash rim size base k) (RipasExtension (base + k * size) (base + (k + 1) * size))

-- The entries of one table from `base` to `top` become RAM, up to the first unchangeable one. Each extends the
-- measurement. RMM 1.0, RMI_RTT_INIT_RIPAS.
unfoldable pub rtt_init_ripas : ℕ → ℕ → ℕ → Machine → Command
rtt_init_ripas rd base top m =
    let realm = realm_at m rd in
    let found = walk m realm base 3 in
    let size = entry_size found.level in
    let count = change_count m (init_changeable m.settings) found base top in
    record {
      checks = size_checks base top ++ rd_checks m rd ++ range_checks realm base top
          ++ progress_checks (Size ∷ RdState ∷ BaseBound ∷ TopBound ∷ RealmState ∷ []) m (init_changeable m.settings) found base top;
      answer = record success { x1 = base + count * size };
      machine = with_realm (with_ripas m found base Ram count) (number_of m rd) (with_rim realm (rim_with_ripas realm.hash realm.rim size base count));
    }

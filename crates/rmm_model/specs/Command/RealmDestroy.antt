-- The command RMI_REALM_DESTROY: its checks, its answer and its effect.
use Rattle.std.specs.Prelude.{ℕ, zero, suc, ◌+◌, ◌||◌, Bool, false, nat_lt, [], ◌∷◌, ◌++◌}
use Rattle.rmm_model.specs.declared.condition.Condition.TheVariants.{RdState, RealmLive}
use Rattle.rmm_model.specs.declared.granule.RmmGranuleState.TheVariants.{Delegated}
use Rattle.rmm_model.specs.declared.realm.RmmRealm.{RmmRealm}
use Rattle.rmm_model.specs.Check.{Command, check, success, error_realm}
use Rattle.rmm_model.specs.Machine.{Machine, number_of, page_in, with_blank, with_vmid}
use Rattle.rmm_model.specs.Table.{has_live}
use Rattle.rmm_model.specs.Command.Operand.{rd_checks, realm_at}

-- at least one of `count` tables, in adjacent granules from `first` on, has a live entry
unfoldable pub has_live_table : Machine → ℕ → ℕ → Bool
has_live_table m first zero = false
has_live_table m first (suc count) = has_live (page_in m first) || has_live_table m (first + 1) count

-- the realm has a REC, or a live entry in a starting table
unfoldable pub is_realm_live : Machine → RmmRealm → Bool
is_realm_live m realm = nat_lt 0 realm.rec_count || has_live_table m realm.first_table realm.table_count

-- the machine after the first k starting tables of a realm become DELEGATED and are wiped
unfoldable pub without_tables : Machine → RmmRealm → ℕ → Machine
without_tables m realm zero = m
without_tables m realm (suc k) = with_blank (without_tables m realm k) (realm.first_table + k) Delegated

-- A realm without RECs or live entries is removed: its RD and its starting tables become DELEGATED, and its VMID
-- becomes free. RMM 1.0, RMI_REALM_DESTROY.
unfoldable pub realm_destroy : ℕ → Machine → Command
realm_destroy rd m =
    let realm = realm_at m rd in
    record {
      checks = rd_checks m rd ++ check RealmLive (RdState ∷ []) (is_realm_live m realm) error_realm ∷ [];
      answer = success;
      machine = with_vmid (with_blank (without_tables m realm realm.table_count) (number_of m rd) Delegated) realm.vmid false;
    }

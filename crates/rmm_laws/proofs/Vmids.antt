-- Proofs that a call keeps each VMID used or free as before, except the VMID of a realm that the call creates or
-- destroys.
use Rattle.std.proofs.Common.{◌≡◌, ◌≢◌, ℕ, zero, suc, Bool, true, false, List, Option, Some, None, refl, ap, ◌∙◌}
use Rattle.std.specs.Prelude.{slice_index_or}
use Rattle.std.proofs.lemmas.List.{get_or-set_other}
use Rattle.rmi_abi.specs.declared.call.Call.{Call}
use Rattle.rmi_abi.specs.declared.call.Call.TheVariants.{RealmCreate, RealmDestroy}
use Rattle.rmi_abi.specs.declared.registers.Registers.{Registers}
use Rattle.rmm_model.specs.declared.realm.RmmRealm.{RmmRealm}
use Rattle.rmm_model.specs.Call.{command_of, performed, rmi_at}
use Rattle.rmm_model.specs.Machine.{Machine, number_of, is_vmid_used}
use Rattle.rmm_model.specs.Command.Operand.{realm_at}
use Rattle.rmm_model.specs.Command.RealmCreate.{realm_create, params_at, realm_for, with_tables}
use Rattle.rmm_model.specs.Command.RealmDestroy.{realm_destroy, without_tables}
use Rattle.rmm_laws.specs.Apart.{changes_vmids, IsOtherVmid}
use Rattle.rmm_laws.specs.Proper.{IsProper}
use Rattle.rmm_laws.proofs.Passed.{kept}
use Rattle.rmm_laws.proofs.ReleasingCalls.{call_vmids}

pub made_vmids : (m : Machine) (rd : ℕ) (realm : RmmRealm) (k : ℕ) → (with_tables m rd realm k).vmids ≡ m.vmids
unfolding with_tables
made_vmids m rd realm zero = refl
made_vmids m rd realm (suc k) = made_vmids m rd realm k

cleared_vmids : (m : Machine) (realm : RmmRealm) (k : ℕ) → (without_tables m realm k).vmids ≡ m.vmids
unfolding without_tables
cleared_vmids m realm zero = refl
cleared_vmids m realm (suc k) = cleared_vmids m realm k

created : (rd params vmid : ℕ) (m : Machine) → vmid ≢ (params_at m params).vmid → is_vmid_used (realm_create rd params m).machine vmid ≡ is_vmid_used m vmid
unfolding realm_create realm_for
created rd params vmid m other =
    let realm : RmmRealm = realm_for m (params_at m params) in
    let before : Machine = with_tables m (number_of m rd) realm realm.table_count in
    get_or-set_other before.vmids (params_at m params).vmid vmid true false other ∙ ap (λ (l : List Bool). slice_index_or l vmid false) (made_vmids m (number_of m rd) realm realm.table_count)

destroyed : (rd vmid : ℕ) (m : Machine) → vmid ≢ (realm_at m rd).vmid → is_vmid_used (realm_destroy rd m).machine vmid ≡ is_vmid_used m vmid
unfolding realm_destroy
destroyed rd vmid m other =
    let realm : RmmRealm = realm_at m rd in
    let before : Machine = without_tables m realm realm.table_count in
    get_or-set_other before.vmids realm.vmid vmid false false other ∙ ap (λ (l : List Bool). slice_index_or l vmid false) (cleared_vmids m realm realm.table_count)

others : (call : Call) (r : Registers) (m : Machine) (vmid : ℕ) → IsProper m → changes_vmids (Some call) ≡ false → is_vmid_used (rmi_at (Some call) r m).1 vmid ≡ is_vmid_used m vmid
others call r m vmid proper quiet = ap (λ (l : List Bool). slice_index_or l vmid false) (call_vmids (Some call) r m proper quiet)

pub vmid_left : (o : Option Call) (r : Registers) (m : Machine) (vmid : ℕ) → IsProper m → IsOtherVmid m o vmid → is_vmid_used (rmi_at o r m).1 vmid ≡ is_vmid_used m vmid
unfolding performed
vmid_left None r m vmid proper other = refl
vmid_left (Some (RealmCreate rd params)) r m vmid proper other = kept (λ (n : Machine). is_vmid_used n vmid ≡ is_vmid_used m vmid) (command_of (RealmCreate rd params) m) m refl (λ ok. created rd params vmid m other)
vmid_left (Some (RealmDestroy rd)) r m vmid proper other = kept (λ (n : Machine). is_vmid_used n vmid ≡ is_vmid_used m vmid) (command_of (RealmDestroy rd) m) m refl (λ ok. destroyed rd vmid m other)
vmid_left (Some call) r m vmid proper other = others call r m vmid proper refl
